use Rattle.ti_forms.proofs.LineTexts.{hpa_spelled}
use Rattle.ti_forms.proofs.texts.hpa_line.Goals as goal

pub returns : goal.returns
returns c = hpa_spelled c.args.column _ _ _ _ c.new-text.ensures c.push_around.ensures.items c.push_sequence.ensures.items c.push_around-2.ensures.items
