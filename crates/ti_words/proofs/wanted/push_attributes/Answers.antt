use Rattle.std.proofs.Common.{◌++◌, List, ℕ, ap, ◌∙◌}
use Rattle.std.proofs.lemmas.Result.{on_ok_weaker}
use Rattle.ti_words.specs.Wanted.{listed_text}
use Rattle.ti_words.proofs.wanted.push_attributes.Goals as goal

-- the names are those of the attributes, or the word for none
pub returns : goal.returns
returns c = on_ok_weaker c.push_listed.result (λ is. is ∙ ap (λ (names : List ℕ). c.args.words.now.items ++ listed_text names) (c.as_slice.ensures.value ∙ c.in_ok-names.ensures)) c.push_listed.ensures
