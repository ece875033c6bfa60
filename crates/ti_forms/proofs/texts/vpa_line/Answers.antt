use Rattle.ti_forms.proofs.LineTexts.{vpa_spelled}
use Rattle.ti_forms.proofs.texts.vpa_line.Goals as goal

pub returns : goal.returns
returns c = vpa_spelled c.args.line _ _ _ _ c.new-text.ensures c.push_around.ensures.items c.push_sequence.ensures.items c.push_around-2.ensures.items
