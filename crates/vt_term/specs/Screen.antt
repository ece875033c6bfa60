-- The state of the terminal: the display with its modes, and the sequence that isn't whole yet.
use Rattle.std.specs.Prelude.{ℕ, ◌+◌, ◌≡◌, true, false, List, []}
pub use Rattle.vt_screen.specs.Screen.{Screen, IsScreen, is_graphic, reset_screen}
pub use Rattle.vt_screen.specs.declared.displays.Charset.{Charset}
pub use Rattle.vt_screen.specs.declared.displays.Settings.{Settings}
pub use Rattle.vt_screen.specs.Settings.{settings_of, with_settings}
use Rattle.vt_term.specs.Text.{IsOpen}

pub record State : Type 0 where
  pub screen : Screen
  -- the bytes so far of a sequence that isn't whole
  pub rest : List ℕ

pub record IsState (s : State) : Type 0 where
  pub screen : IsScreen s.screen
  pub rest : IsOpen s.rest

-- a state of this size
pub record IsOfSize (height width : ℕ) (s : State) : Type 0 where
  pub state : IsState s
  pub rows : s.screen.rows ≡ height
  pub cols : s.screen.cols ≡ width

-- the state of a new terminal
abbrev pub reset : ℕ → ℕ → State
reset rows cols = record { screen = reset_screen rows cols; rest = [] }

-- nothing is open, and every mode that would change a text's effect is as after a reset
pub record IsAtRest (s : State) : Type 0 where
  pub rest : s.rest ≡ []
  pub autowrap : s.screen.autowrap ≡ true
  pub inserting : s.screen.inserting ≡ false
  pub top : s.screen.top ≡ 0
  pub bottom : s.screen.bottom + 1 ≡ s.screen.rows
  pub charset : is_graphic s.screen.charset ≡ false
