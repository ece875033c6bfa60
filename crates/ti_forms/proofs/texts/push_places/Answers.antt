use Rattle.ti_forms.proofs.LineTexts.{five_words}
use Rattle.ti_forms.proofs.texts.push_places.Goals as goal

pub returns-clause-items : goal.returns-clause-items
returns-clause-items c = five_words _ _ _ _ _ _ _ _ _ _ _ c.push_word.ensures.items c.push_hex_number.ensures.items c.push_word-2.ensures.items c.push_hex_number-2.ensures.items c.push_word-3.ensures.items
