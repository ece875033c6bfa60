-- The respects in which the end of an effect differs from each wanted end of a row.
use Rattle.std.specs.Prelude.{ℕ, ◌≡◌, List, Some}
use Rattle.vt_term.specs.Screen.{Screen}
use Rattle.vt_effects.specs.declared.effects.Effect.{Effect}
use Rattle.vt_effects.specs.Effect.{applied}
use Rattle.vt_effects.specs.Record.{record_of}
use Rattle.ti_rows.specs.Asked.{start_of}
use Rattle.ti_rows.specs.Starts.{Starts}
use Rattle.ti_rows.specs.Wants.{Wants}
use Rattle.ti_rows.specs.declared.rows.Looks.{Looks}
use Rattle.ti_rows.specs.declared.rows.Row.{Row}
use Rattle.ti_checker.specs.Breakage.{AgreeBefore}

-- From some start of the row the effect leads to an end that is like none of the wanted ones (`Alike`), for all looks
-- that agree with what the rows before taught.
pub record Strays (Alike : Screen → Screen → Type 0) (rows cols : ℕ) (taught : Looks) (row : Row) (e : Effect)
    : Type 0 where
  pub start : Screen
  pub starts : Starts rows cols row start
  pub apart : (looks : Looks) (wanted : Screen) → AgreeBefore row taught looks → Wants looks row start wanted
      → Alike (applied e start) wanted → ⊥

-- the cursor's place, a pending wrap and the margins are the same
pub record HaveOnePlace (s t : Screen) : Type 0 where
  pub row : s.row ≡ t.row
  pub col : s.col ≡ t.col
  pub pending : s.pending ≡ t.pending
  pub top : s.top ≡ t.top
  pub bottom : s.bottom ≡ t.bottom

abbrev pub HaveOneRendition : Screen → Screen → Type 0
HaveOneRendition s t = s.rendition ≡ t.rendition

abbrev pub HaveSameCells : Screen → Screen → Type 0
HaveSameCells s t = s.grid ≡ t.grid

-- both sets, the active one and the cursor's visibility are the same
pub record HaveSameModes (s t : Screen) : Type 0 where
  pub charset : s.charset ≡ t.charset
  pub visible : s.visible ≡ t.visible

-- from some start, the effect leads to a place, a rendition, cells or modes that no wanted end has
abbrev pub LeadsElsewhere : ℕ → ℕ → Looks → Row → Effect → Type 0
LeadsElsewhere rows cols taught row e = Strays HaveOnePlace rows cols taught row e

abbrev pub RendersOther : ℕ → ℕ → Looks → Row → Effect → Type 0
RendersOther rows cols taught row e = Strays HaveOneRendition rows cols taught row e

abbrev pub LeavesOtherCells : ℕ → ℕ → Looks → Row → Effect → Type 0
LeavesOtherCells rows cols taught row e = Strays HaveSameCells rows cols taught row e

abbrev pub LeavesOtherModes : ℕ → ℕ → Looks → Row → Effect → Type 0
LeavesOtherModes rows cols taught row e = Strays HaveSameModes rows cols taught row e

-- (Serves the code alone.) The effect is the record of some tokens from the row's start.
abbrev pub IsRecorded : ℕ → ℕ → Row → Effect → Type 0
IsRecorded rows cols row e = (tokens : List (List ℕ)) × (record_of rows cols (start_of rows cols row) tokens ≡ Some e)

-- There are looks that agree with what the rows before taught, with which the end of the effect from each start of the
-- row is wanted.
pub record IsAlwaysWanted (rows cols : ℕ) (taught : Looks) (row : Row) (e : Effect) : Type 0 where
  pub looks : Looks
  pub agree : AgreeBefore row taught looks
  pub wanted : (s : Screen) → Starts rows cols row s → Wants looks row s (applied e s)
