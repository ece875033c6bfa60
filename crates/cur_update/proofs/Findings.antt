-- The columns found line by line.
use Rattle.std.proofs.Common.{◌≡◌, ℕ, ◌+◌, ◌<◌, List, length, inl, inr, slice_set, sym, subst, arith}
use Rattle.std.proofs.lemmas.Bool.{cases_lt}
use Rattle.std.proofs.lemmas.List.{get_or-set_other, get_or-set_same}
use Rattle.cur_steps.specs.declared.inks.Ink.{Ink}
use Rattle.cur_paint.specs.declared.changes.Columns.{Columns}
use Rattle.cur_update.specs.Shift.{AreAlikeOutside, AreFoundIn, found_at, no_columns}

pub found_next : (xs : List Columns) (from row : ℕ) (y : Columns) (cols : ℕ) (old new : ℕ → ℕ → Ink) → row < length xs → AreFoundIn xs from row cols old new
    → AreAlikeOutside old new row row y.from y.end cols → AreFoundIn (slice_set xs row y) from (row + 1) cols old new
found_next xs from row y cols old new lt h k i le li = elim (cases_lt i row) [
  | inl less ↦ (let e : found_at (slice_set xs row y) i ≡ found_at xs i = get_or-set_other xs row i y no_columns (λ same. absurd (omega (arith, same, less))) in
      let P : Columns → Type 0 = λ c. AreAlikeOutside old new i i c.from c.end cols in
      subst P (sym e) (h i le less))
  | inr more ↦ (let same : row ≡ i = omega (arith, more, li) in
      let e : found_at (slice_set xs row y) row ≡ y = get_or-set_same xs row y no_columns lt in
      let P : Columns → Type 0 = λ c. AreAlikeOutside old new row row c.from c.end cols in
      let Q : ℕ → Type 0 = λ n. AreAlikeOutside old new n n (found_at (slice_set xs row y) n).from (found_at (slice_set xs row y) n).end cols in
      subst Q same (subst P (sym e) k))
]
