-- Bytes that do the same on T, as a run of each on a small screen shows: its text, with the cursor and the looks.
use Rattle.std.specs.Prelude.{◌≡◌, ℕ, List}
use Rattle.vt_term.specs.Printed.{screen_text}
use Rattle.vt_term.specs.Run.{Runs, Sticks}
use Rattle.vt_term.specs.Screen.{State, reset}

-- the state of a new terminal of 5 lines and 10 columns
abbrev pub fresh : State
fresh = reset 5 10

abbrev pub SeenAlike : State → State → Type 0
SeenAlike one other = screen_text one.screen ≡ screen_text other.screen

-- the bytes lead to a state that is seen as this one
pub record EndsAlike (state : State) (bytes : List ℕ) : Type 0 where
  pub end : State
  pub runs : Runs fresh bytes end
  pub seen : SeenAlike state end

-- the bytes lead elsewhere, or T is stuck at one of them
pub data EndsUnlike (state : State) (bytes : List ℕ) : Type 0 where
  Elsewhere : (end : State) → Runs fresh bytes end → (SeenAlike state end → ⊥) → EndsUnlike state bytes
  StuckThere : (at : ℕ) (end : State) → Sticks fresh bytes at end → EndsUnlike state bytes

-- they are the same bytes, or both lead to what is seen as one state
pub data DoAlike (bytes other : List ℕ) : Type 0 where
  Equal : bytes ≡ other → DoAlike bytes other
  Alike : (end : State) → Runs fresh bytes end → EndsAlike end other → DoAlike bytes other

pub data DoUnlike (bytes other : List ℕ) : Type 0 where
  Unlike : (end : State) → Runs fresh bytes end → EndsUnlike end other → DoUnlike bytes other
  Sticking : (at : ℕ) (end : State) → Sticks fresh bytes at end → DoUnlike bytes other
