-- The size of a terminal that two words of a line give, or why they give none.
use Rattle.std.specs.Prelude.{ℕ, List}
use Rattle.vt_term.specs.Size.{IsSize}
use Rattle.ti_files.specs.Failures.{WrongSize}
use Rattle.ti_files.specs.Words.{GivesNumber}
use Rattle.ti_files.specs.declared.failure.Failure.{Failure}
use Rattle.ti_files.specs.declared.failure.Failure.TheVariants.{Refused, Usage, NoMemory}
use Rattle.ti_files.specs.declared.failure.CommandRefusal.TheVariants.{Size}

-- the two words are these numbers
pub record SizeAsked (rows cols : List ℕ) (height width : ℕ) : Type 0 where
  pub gives_height : GivesNumber rows height
  pub gives_width : GivesNumber cols width

-- the two words are these numbers, and a terminal can have this size
pub record SizeGiven (rows cols : List ℕ) (height width : ℕ) : Type 0 where
  pub asked : SizeAsked rows cols height width
  pub size : IsSize height width

-- the two words are numbers, but no terminal has this size
pub record SizeRefused (rows cols : List ℕ) : Type 0 where
  pub height : ℕ
  pub width : ℕ
  pub asked : SizeAsked rows cols height width
  pub refused : IsSize height width → ⊥

-- the two words give some size
abbrev pub HasSize : List ℕ → List ℕ → Type 0
HasSize rows cols = (height : ℕ) × (width : ℕ) × SizeGiven rows cols height width

-- the two words give no size, for this reason: wrong words come first
abbrev pub LacksSize : List ℕ → List ℕ → Failure → Type 0
LacksSize rows cols (Usage told) = WrongSize rows cols (Usage told)
LacksSize rows cols (Refused Size) = SizeRefused rows cols
LacksSize rows cols NoMemory = Unit {0}
LacksSize rows cols _ = ⊥
