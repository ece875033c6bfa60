-- The states that a terminal may be in after output was cut off at any byte, and a blank screen at rest.
use Rattle.std.specs.Prelude.{ℕ, ◌+◌, ◌<◌, ◌≡◌, Bool, true, false}
use Rattle.vt_term.specs.Look.{plain, space}
use Rattle.vt_term.specs.Grid.{look_at}
use Rattle.vt_term.specs.Screen.{State, Screen, IsOfSize, IsAtRest, Charset}
use Rattle.vt_effects.specs.Settings.{IsTame}

-- the region that scrolls, between the margins, is the whole screen
pub record IsWhole (s : Screen) : Type 0 where
  pub top : s.top ≡ 0
  pub bottom : s.bottom + 1 ≡ s.rows

-- Any open sequence, cells, cursor, pending wrap and rendition, and a charset among those given. Margins are whole if
-- nothing sets any, and the cursor is visible if nothing shows it again.
pub record IsLost (rows cols : ℕ) (sets_margins shows : Bool) (among : Charset → Bool) (s : State) : Type 0 where
  pub sized : IsOfSize rows cols s
  pub tame : IsTame s.screen
  pub reached : among s.screen.charset ≡ true
  pub margins : sets_margins ≡ false → IsWhole s.screen
  pub visible : shows ≡ false → s.screen.visible ≡ true

-- at rest, with blank cells in the default rendition, the cursor at the first cell, and this visibility
pub record IsCleared (rows cols : ℕ) (seen : Bool) (t : State) : Type 0 where
  pub sized : IsOfSize rows cols t
  pub rest : IsAtRest t
  pub cells : (i j : ℕ) → i < rows → j < cols → look_at t.screen.grid i j ≡ space
  pub row : t.screen.row ≡ 0
  pub col : t.screen.col ≡ 0
  pub pending : t.screen.pending ≡ false
  pub rendition : t.screen.rendition ≡ plain
  pub visible : t.screen.visible ≡ seen
