-- The state of a terminal after a text, in whatever pieces the text comes.
use Rattle.std.specs.Prelude.{ℕ, ◌+◌, ◌<◌, ◌≡◌, List, [], ◌∷◌, ◌++◌, length, take, Bool, true, false, Option, None}
use Rattle.std.specs.Prelude.{Some, min, ◌-◌}
use Rattle.vt_screen.specs.Screen.{Screen, IsScreen}
use Rattle.vt_term.specs.Screen.{State, IsOfSize, IsAtRest}
use Rattle.vt_term.specs.Text.{Splits}
use Rattle.vt_screen.specs.declared.functions.Function.{Function}
use Rattle.vt_screen.specs.declared.functions.Function.TheVariants.{CursorPosition}
use Rattle.vt_term.specs.Function.{function_of}
use Rattle.vt_term.specs.Step.{step, steps}

-- the open bytes and the new ones split into tokens and a new open rest, and each token takes its step
pub record Runs (before : State) (bytes : List ℕ) (after : State) : Type 0 where
  pub tokens : List (List ℕ)
  pub splits : Splits (before.rest ++ bytes) tokens after.rest
  pub screen : after.screen ≡ steps tokens before.screen

-- the byte at this place fits nothing: the bytes before it are run, and the open sequence is dropped
pub record Sticks (before : State) (bytes : List ℕ) (at : ℕ) (after : State) : Type 0 where
  pub within : at < length bytes
  pub reached : State
  pub runs : Runs before (take at bytes) reached
  pub fits_nothing : (other : State) → Runs before (take (at + 1) bytes) other → ⊥
  pub dropped : after ≡ record reached { rest = [] }

-- one byte is run, or it fits nothing and the open sequence is dropped
abbrev pub Accepts : State → ℕ → Bool → State → Type 0
Accepts before b true after = Runs before (b ∷ []) after
Accepts before b false after =
    ((other : State) → Runs before (b ∷ []) other → ⊥) × (after ≡ record before { rest = [] })

-- a run is cut in two
pub record RunsCut (before : State) (first second : List ℕ) (after : State) : Type 0 where
  pub between : State
  pub runs_first : Runs before first between
  pub runs_second : Runs between second after

-- the place that a token names, if it is CUP
abbrev pub place_named : ℕ → ℕ → Function → Option (ℕ × ℕ)
place_named rows cols (CursorPosition row col) = Some (min (row - 1) (rows - 1), min (col - 1) (cols - 1))
place_named rows cols _ = None

abbrev pub place_of : ℕ → ℕ → List ℕ → Option (ℕ × ℕ)
place_of rows cols token = place_named rows cols (function_of token)

-- the step of this token moves the cursor of every screen of the size to this place
abbrev pub LeadsTo : ℕ → ℕ → List ℕ → ℕ → ℕ → Type 0
LeadsTo rows cols token row col =
    (s : Screen) → IsScreen s → s.rows ≡ rows → s.cols ≡ cols → ((step token s).row ≡ row) × ((step token s).col ≡ col)

-- a run leaves the cursor at the place
pub record RunsTo (height width : ℕ) (before : State) (bytes : List ℕ) (row col : ℕ) : Type 0 where
  pub after : State
  pub runs : Runs before bytes after
  pub size : IsOfSize height width after
  pub at_row : after.screen.row ≡ row
  pub at_col : after.screen.col ≡ col

-- the whole text moves the cursor to this place from every state at rest
abbrev pub Reaches : ℕ → ℕ → List ℕ → ℕ → ℕ → Type 0
Reaches rows cols bytes row col =
    (before : State) → IsOfSize rows cols before → IsAtRest before → RunsTo rows cols before bytes row col
