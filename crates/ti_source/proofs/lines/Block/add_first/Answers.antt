use Rattle.ti_source.proofs.FieldLines.{no_parts}
use Rattle.ti_source.proofs.lines.Block.add_first.Goals as goal

pub returns-in-None : goal.returns-in-None
returns-in-None c = no_parts c.args.line c.args.self.now c.args.text.now c.in-None.ensures.none
