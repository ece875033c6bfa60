use Rattle.std.proofs.Common.{[], ap, sym, ◌∙◌}
use Rattle.std.specs.Prelude.{if◌then◌else◌}
use Rattle.ti_source.specs.Blocks.{with_lines}
use Rattle.ti_source.specs.Layout.{cut_of}
use Rattle.ti_source.specs.Lines.{part_lines}
use Rattle.ti_source.proofs.FieldLines.{with_none}
use Rattle.ti_source.proofs.lines.Block.add_further.Goals as goal

pub returns-else-is_further : goal.returns-else-is_further
returns-else-is_further c =
    sym (ap (λ t. with_lines c.args.self.now (if t then part_lines c.args.number (cut_of c.args.line.now).ended else [])) (sym c.is_further.ensures ∙ c.if-is_further.false) ∙ with_none c.args.self.now)
