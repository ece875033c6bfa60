-- One pair of `acsc` after another.
use Rattle.std.proofs.Common.{◌≡◌, ◌≢◌, ℕ, ◌-◌, ◌≤◌, ◌==◌, false, if◌then◌else◌, List, [], ◌∷◌, Option, Some, length, get_or, take, drop, sym, ap, ◌∙◌, arith}
use Rattle.std.proofs.lemmas.List.{take_all}
use Rattle.std.proofs.lemmas.Bool.Decides.{nat_tests}
use Rattle.ti_conforms.specs.Alternates.{listed}

pub skipped : (pairs : List ℕ) (letter : ℕ) (all : Option ℕ) → 2 ≤ length pairs → get_or pairs 0 0 ≢ letter → listed pairs letter ≡ all → listed (take (length pairs - 2) (drop 2 pairs)) letter ≡ all
skipped [] letter all le ne h = absurd (omega arith)
skipped (x ∷ []) letter all le ne h = absurd (omega arith)
skipped (x ∷ y ∷ rest) letter all le ne h =
    let n : length (x ∷ y ∷ rest) - 2 ≡ length rest = omega arith in
    let other : (x == letter) ≡ false = grind (arith, nat_tests, ne) in
    ap (λ k. listed (take k rest) letter) n ∙ (ap (λ (l : List ℕ). listed l letter) (take_all (length rest) rest (omega arith)) ∙ (sym (ap (λ t. if t then Some y else listed rest letter) other) ∙ h))
