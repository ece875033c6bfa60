-- A names field, cut at its first `|`.
use Rattle.std.proofs.Common.{◌≡◌, ℕ, ◌+◌, ◌≤◌, List, [], ◌∷◌, Some, None, Bool, true, false, not, cond, refl, sym, ◌∙◌, ap, length, take, drop, arith, ◌==◌, ⊎_elim}
use Rattle.std.specs.Prelude.{nat_lt}
use Rattle.std.specs.List.{position, position_or_len, slice_split, onto_first}
use Rattle.std.proofs.lemmas.Bool.{ltb-true, ltb-false, cases_Bool, cond-true, cond-false, not_from_false, not_from_true}
use Rattle.std.proofs.lemmas.Option.{cond_some}
use Rattle.std.proofs.lemmas.List.Splits.{slice_split_first, slice_split-cons_no}
use Rattle.ti_caps.specs.Fits.{names_in}

pub cut_found : (names : List ℕ) (at : ℕ) → Some at ≡ position (λ b. b == 124) names → names_in names ≡ take at names ∷ names_in (drop (at + 1) names)
cut_found names at is =
    let parts = cond_some (nat_lt (position_or_len (λ b. b == 124) names) (length names)) (position_or_len (λ b. b == 124) names) at (sym is) in
    rw (← parts.1) (slice_split_first (λ b. b == 124) names 0 (ltb-true _ _ parts.0))

all_fail : (test : ℕ → Bool) (xs : List ℕ) → length xs ≤ position_or_len test xs → slice_split test xs ≡ xs ∷ []
all_fail test [] past = refl
all_fail test (x ∷ xs) past =
    ⊎_elim
    (λ t. let first : position_or_len test (x ∷ xs) ≡ 0 = cond-false (not (test x)) _ _ (not_from_true (test x) t) in absurd (omega arith))
    (λ f.
    let more : position_or_len test (x ∷ xs) ≡ 1 + position_or_len test xs = cond-true (not (test x)) _ _ (not_from_false (test x) f) in
    slice_split-cons_no test x xs f ∙ ap (onto_first x) (all_fail test xs (omega arith)))
    (cases_Bool (test x))

none_from_cond : (b : Bool) (x : ℕ) → None ≡ cond b (Some x) None → b ≡ false
none_from_cond true x is = cc
none_from_cond false x is = refl

pub cut_none : (names : List ℕ) → None ≡ position (λ b. b == 124) names → names_in names ≡ names ∷ []
cut_none names is = all_fail (λ b. b == 124) names (ltb-false _ _ (none_from_cond _ _ is))
