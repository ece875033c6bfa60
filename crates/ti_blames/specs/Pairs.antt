-- The pairs of `acsc`.
use Rattle.std.specs.Prelude.{◌≡◌, ◌≤◌, ◌<◌, ◌+◌, ◌*◌, ℕ, List, Some, length, slice_get}
use Rattle.ti_blames.specs.Stretches.{IsWithin}
use Rattle.ti_blames.specs.declared.stretches.Stretch.{Stretch}

-- the pair at a place, counted in pairs, is whole and has this letter
pub record HasLetter (pairs : List ℕ) (letter place : ℕ) : Type 0 where
  pub is : slice_get pairs (2 * place) ≡ Some letter
  pub whole : 2 * place + 2 ≤ length pairs

-- the first pair with this letter
pub record IsPairOf (pairs : List ℕ) (letter : ℕ) (pair : Stretch) : Type 0 where
  pub place : ℕ
  pub has : HasLetter pairs letter place
  pub first : (other : ℕ) → other < place → HasLetter pairs letter other → ⊥
  pub begins : pair.from ≡ 2 * place
  pub ends : pair.to ≡ 2 * place + 2
  pub within : IsWithin pairs pair
