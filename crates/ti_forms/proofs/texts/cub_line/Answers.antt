use Rattle.ti_forms.proofs.LineTexts.{cub_spelled}
use Rattle.ti_forms.proofs.texts.cub_line.Goals as goal

pub returns : goal.returns
returns c = cub_spelled c.args.count _ _ _ _ c.new-text.ensures c.push_around.ensures.items c.push_sequence.ensures.items c.push_around-2.ensures.items
