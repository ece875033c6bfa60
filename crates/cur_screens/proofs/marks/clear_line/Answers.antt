use Rattle.std.proofs.Common.{◌≡◌, ◌∙◌, ◌<◌, ◌⊎◌, ℕ, arith, inl, inr, length, slice_index_or, slice_set, sym}
use Rattle.std.proofs.lemmas.Bool.{cases_lt}
use Rattle.std.proofs.lemmas.Grind.{get_or-set_at}
use Rattle.std.proofs.lemmas.List.{ext_get_or, get_or-replicate, get_or-set_other, length-replicate, length-set}
use Rattle.cur_screens.specs.Marks.{nothing}
use Rattle.cur_screens.proofs.marks.clear_line.Goals as goal

pub returns : goal.returns
returns c =
    let xs = c.args.lines.now in
    let row = c.args.rows.from in
    let there : row < length xs = omega (arith, c.requires.within.within, c.requires.one) in
    let off : (i : ℕ) → (i < row) ⊎ (row < i) → slice_index_or (slice_set xs row nothing) i nothing ≡ nothing = λ i side. elim side [
      | inl low ↦ get_or-set_other xs row i nothing nothing (λ e. omega (arith, low, e)) ∙ c.requires.within.others i (inl low)
      | inr high ↦ get_or-set_other xs row i nothing nothing (λ e. omega (arith, high, e)) ∙ c.requires.within.others i (inr (omega (arith, high, c.requires.one)))
    ] in
    let all : (i : ℕ) → slice_index_or (slice_set xs row nothing) i nothing ≡ nothing = λ i. elim (cases_lt i row) [
      | inl low ↦ off i (inl low)
      | inr from ↦ elim (cases_lt row i) [
        | inl high ↦ off i (inr high)
        | inr to ↦ get_or-set_at xs row i nothing nothing (omega (arith, from, to)) there
      ]
    ] in
    let size : length (slice_set xs row nothing) ≡ length xs = length-set xs row nothing in
    ext_get_or nothing _ _ (size ∙ sym (length-replicate _ nothing)) (λ i lt. all i ∙ sym (get_or-replicate _ i nothing nothing (omega (arith, lt, size))))
