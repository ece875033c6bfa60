-- The last byte of a line.
use Rattle.std.proofs.Common.{◌≡◌, ℕ, ◌-◌, ◌<◌, false, List, [], ◌∷◌, ◌++◌, length, take, get_or, refl, sym, ap, ◌∙◌, arith}
use Rattle.std.specs.Prelude.{◌==◌}
use Rattle.ti_sources.specs.Joins.{ends_in_return}
use Rattle.ti_source.proofs.Layouts.{front_and_last}

ends_at : (front : List ℕ) (b : ℕ) → ends_in_return (front ++ b ∷ []) ≡ (b == 13)
ends_at [] b = refl
ends_at (a ∷ []) b = refl
ends_at (a ∷ c ∷ front) b = ends_at (c ∷ front) b

pub last_return : (line : List ℕ) → 0 < length line → (get_or line (length line - 1) 0 == 13) ≡ ends_in_return line
last_return line h = sym (ap ends_in_return (front_and_last line h) ∙ ends_at (take (length line - 1) line) (get_or line (length line - 1) 0))

pub no_return : (line : List ℕ) → length line < 1 → false ≡ ends_in_return line
no_return [] h = refl
no_return (b ∷ rest) h = absurd (omega arith)
