-- Which part of a value in a source text means a stretch of the string.
use Rattle.std.specs.Prelude.{◌≡◌, ◌≤◌, ◌<◌, ℕ, List, Ok, drop, length, take}
use Rattle.ti_source.specs.Escapes.{unescaped}
use Rattle.ti_blames.specs.Stretches.{IsWithin}
use Rattle.ti_blames.specs.declared.stretches.Stretch.{Stretch}

-- no escape goes over this place of a value: what stands before it means the first `count` bytes of the string, and
-- what stands behind it means the others
pub record IsCut (text bytes : List ℕ) (count place : ℕ) : Type 0 where
  pub before : unescaped (take place text) ≡ Ok (take count bytes)
  pub behind : unescaped (drop place text) ≡ Ok (drop count bytes)

-- the first such place from another one on
pub record IsFirstCut (text bytes : List ℕ) (count first place : ℕ) : Type 0 where
  pub is : IsCut text bytes count place
  pub late : first ≤ place
  pub within : place ≤ length text
  pub least : (other : ℕ) → first ≤ other → other < place → IsCut text bytes count other → ⊥

-- the part of a value that means a stretch of the string
pub record IsMeaning (text bytes : List ℕ) (stretch part : Stretch) : Type 0 where
  pub starts : IsCut text bytes stretch.from part.from
  pub ends : IsCut text bytes stretch.to part.to
  pub within : IsWithin text part
