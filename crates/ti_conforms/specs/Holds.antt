-- The facts about judged strings that others may use, stated by runs of a terminal alone.
use Rattle.std.specs.Prelude.{ℕ, ◌≡◌, Bool, true, List, [], ◌++◌, Some}
use Rattle.vt_term.specs.Screen.{State}
use Rattle.vt_term.specs.Ends.{Closed, Ends}
use Rattle.ti_rows.specs.declared.rows.Row.{Row}
use Rattle.ti_rows.specs.declared.rows.Row.TheVariants.{Cnorm}
use Rattle.ti_rows.specs.Starts.{Starts}
use Rattle.ti_rows.specs.Right.{IsRight, sets_visible}
use Rattle.ti_conforms.specs.Lost as lost
use Rattle.ti_conforms.specs.Lost.{IsCleared}
use Rattle.ti_conforms.specs.Table.{Table, has, widening, resync, IsLost, Ended}
use Rattle.ti_conforms.specs.Sets.{SetsHold}
use Rattle.ti_conforms.specs.Judged.{IsJudged}

pub record LineHolds (t : Table) (row : Row) (bytes : List ℕ) : Type 0 where
  -- the bytes are whole tokens, each of them tame
  pub right : IsRight t.rows t.cols t.looks row bytes
  -- from every start the run isn't stuck, and ends as `Ended` says, between two tokens
  pub ends : (s : State) → s.rest ≡ [] → Starts t.rows t.cols row s.screen
      → Ends s bytes (Closed (Ended t row s.screen))
  -- if the bytes are cut off, the state is a lost one; `civis` and `cvvis` must not be sent without `cnorm`
  pub fronts : (sets_visible row ≡ true → has t Cnorm ≡ true) → (s : State) → s.rest ≡ [] → IsLost t s
      → (front back : List ℕ) → bytes ≡ front ++ back → Ends s front (IsLost t)

-- a blank screen at rest, with a settled charset
pub record IsResynced (t : Table) (visible : Bool) (u : State) : Type 0 where
  pub cleared : IsCleared t.rows t.cols visible u
  pub settled : t.settled u.screen.charset ≡ true

pub record TableHolds (t : Table) : Type 0 where
  pub lines : (row : Row) (bytes : List ℕ) → t.line_of row ≡ Some bytes → LineHolds t row bytes
  -- From every lost state, whatever sequence is open and whether the cursor is visible or not, a resynchronization
  -- leads to a blank screen at rest; each prefix of it leads to a lost state.
  pub resyncs : (shows : Bool) (s : State) → lost.IsLost t.rows t.cols (has t (widening t)) shows t.reached s
      → Ends s (resync t) (IsResynced t s.screen.visible)
  pub resync_fronts : (s : State) → IsLost t s → (front back : List ℕ) → resync t ≡ front ++ back
      → Ends s front (IsLost t)
  pub sets : SetsHold t

abbrev pub JudgedHolds : Type 0
JudgedHolds = (t : Table) → IsJudged t → TableHolds t
