use Rattle.ti_forms.proofs.LineTexts.{cup_spelled}
use Rattle.ti_forms.proofs.texts.cup_line.Goals as goal

pub returns : goal.returns
returns c = cup_spelled c.args.row c.args.col _ _ _ _ c.new-text.ensures c.push_place.ensures.items c.push_places.ensures.items c.push_place-2.ensures.items
