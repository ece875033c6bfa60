-- The states in which runs over some bytes end.
use Rattle.std.specs.Prelude.{ℕ, ◌≡◌, List, [], ◌++◌}
use Rattle.vt_term.specs.Screen.{State, Screen}
use Rattle.vt_term.specs.Run.{Runs}

-- run over the bytes, the state becomes one of the kind
pub record Ends (before : State) (bytes : List ℕ) (kind : State → Type 0) : Type 0 where
  pub after : State
  pub runs : Runs before bytes after
  pub there : kind after

-- nothing is open, and the screen is of the kind
pub record Closed (kind : Screen → Type 0) (s : State) : Type 0 where
  pub rest : s.rest ≡ []
  pub screen : kind s.screen

-- From every start, with nothing open, the run isn't stuck and ends as wanted, with nothing open. Every prefix of the
-- bytes leads from a lost state with nothing open to a lost state.
pub record Drives (starts : Screen → Type 0) (wants : Screen → Screen → Type 0) (lost : State → Type 0)
    (bytes : List ℕ) : Type 0 where
  pub right : (s : State) → s.rest ≡ [] → starts s.screen → Ends s bytes (Closed (wants s.screen))
  pub fronts : (s : State) → s.rest ≡ [] → lost s → (front back : List ℕ) → bytes ≡ front ++ back → Ends s front lost
