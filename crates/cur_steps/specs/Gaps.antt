-- (Serves the code alone.) Cells of a line that the cursor passes by printing them again.
use Rattle.std.specs.Prelude.{ℕ, ◌+◌, ◌<◌, ◌≤◌, ◌≡◌, Some}
use Rattle.ti_conforms.specs.Certified.{Table}
use Rattle.cur_steps.specs.Beliefs.{Belief, Place}
use Rattle.cur_steps.specs.declared.inks.Ink.{Ink}

-- the character's brush and set are the current ones
pub record IsAlike (b : Belief) (x : Ink) : Type 0 where
  pub brush : b.brush ≡ x.brush
  pub set : b.graphic ≡ Some x.graphic

-- from the cursor to a column ahead in its line: no more cells than the longest `cup` has bytes, each in the current
-- brush and set
pub record IsGap (t : Table) (b : Belief) (g : ℕ → ℕ → Ink) (row from col : ℕ) : Type 0 where
  pub place : b.place ≡ record { row = row; col = from }
  pub ahead : from < col
  pub short : col ≤ from + t.longest.cup
  pub alike : (k : ℕ) → from + k < col → IsAlike b (g row (from + k))

-- the place this many columns to the right
abbrev pub right : Place → ℕ → Place
right p n = record { row = p.row; col = p.col + n }

-- the cells of a line before a column are these
abbrev pub BeginsAs : (ℕ → ℕ → Ink) → (ℕ → ℕ → Ink) → ℕ → ℕ → Type 0
BeginsAs g h row col = (k : ℕ) → k < col → g row k ≡ h row k
