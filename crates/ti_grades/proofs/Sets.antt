-- Designations among bytes, from the first byte on.
use Rattle.std.proofs.Common.{◌≡◌, ◌-◌, ◌<◌, ◌≤◌, ℕ, Bool, List, [], ◌∷◌, length, take, drop, true, false, sym, ap, ◌∙◌, arith}
use Rattle.std.proofs.lemmas.List.{take_rest}
use Rattle.std.specs.Prelude.{◌||◌}
use Rattle.ti_grades.specs.Sequences.{begins_other_set, has_other_set}

pub none_in_nothing : (text : List ℕ) (whole : Bool) → length text < 1 → has_other_set text ≡ whole → false ≡ whole
unfolding has_other_set
none_in_nothing [] whole l w = w
none_in_nothing (b ∷ rest) whole l w = absurd (omega (arith, l))

pub first_has_it : (text : List ℕ) (whole : Bool) → 1 ≤ length text → begins_other_set text ≡ true → has_other_set text ≡ whole → true ≡ whole
unfolding has_other_set
first_has_it [] whole l e w = absurd (omega (arith, l))
first_has_it (b ∷ rest) whole l e w = sym (ap (λ (so : Bool). so || has_other_set rest) e) ∙ w

pub behind_first : (text : List ℕ) (whole : Bool) → 1 ≤ length text → begins_other_set text ≡ false → has_other_set text ≡ whole
    → has_other_set (take (length text - 1) (drop 1 text)) ≡ whole
unfolding has_other_set
behind_first [] whole l e w = absurd (omega (arith, l))
behind_first (b ∷ rest) whole l e w =
    ap (λ (xs : List ℕ). has_other_set xs) (take_rest (b ∷ rest) 1) ∙ (sym (ap (λ (so : Bool). so || has_other_set rest) e) ∙ w)
