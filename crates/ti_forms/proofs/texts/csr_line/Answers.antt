use Rattle.ti_forms.proofs.LineTexts.{csr_spelled}
use Rattle.ti_forms.proofs.texts.csr_line.Goals as goal

pub returns : goal.returns
returns c = csr_spelled c.args.top c.args.bottom _ _ _ _ c.new-text.ensures c.push_place.ensures.items c.push_places.ensures.items c.push_place-2.ensures.items
