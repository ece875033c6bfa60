-- Statements at the size that the words of a command give.
use Rattle.std.specs.Prelude.{ℕ, List}
use Rattle.ti_files.specs.Sizes.{SizeGiven}

-- the words for rows and columns give a size, and this holds at it
pub record AtSize (rows cols : List ℕ) (Holds : ℕ → ℕ → Type 0) : Type 0 where
  pub height : ℕ
  pub width : ℕ
  pub given : SizeGiven rows cols height width
  pub holds : Holds height width
