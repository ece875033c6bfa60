use Rattle.std.proofs.Common.{◌≡◌, ◌∙◌, ℕ, arith, inl, inr, slice_index_or, sym}
use Rattle.std.proofs.lemmas.Bool.{cases_lt}
use Rattle.std.proofs.lemmas.List.{ext_get_or, get_or-replicate, length-replicate}
use Rattle.cur_screens.specs.Marks.{nothing}
use Rattle.cur_screens.proofs.marks.clear_lines.Goals as goal

pub returns : goal.returns
returns c =
    let all : (i : ℕ) → slice_index_or c.loop-k.lines i nothing ≡ nothing = λ i. elim (cases_lt i c.loop-k.k) [
      | inl before ↦ c.loop-k.invariant.others i (inl before)
      | inr past ↦ c.loop-k.invariant.others i (inr (omega (arith, past)))
    ] in
    ext_get_or nothing _ _ (c.loop-k.invariant.size ∙ sym (length-replicate _ nothing)) (λ i lt. all i ∙ sym (get_or-replicate _ i nothing nothing (omega (arith, lt, c.loop-k.invariant.size))))
