-- (Serves the code alone.) The places where a screen is blank.
use Rattle.std.specs.Prelude.{ℕ, ◌<◌, ◌≤◌, ◌≡◌}
use Rattle.cur_steps.specs.Inks.{blank_ink}
use Rattle.cur_steps.specs.declared.inks.Ink.{Ink}

-- a line from a column on, and all lines below it
pub record IsBlankFrom (g : ℕ → ℕ → Ink) (rows cols r c : ℕ) : Type 0 where
  pub line : (j : ℕ) → c ≤ j → j < cols → g r j ≡ blank_ink
  pub lines : (i j : ℕ) → r < i → i < rows → j < cols → g i j ≡ blank_ink
