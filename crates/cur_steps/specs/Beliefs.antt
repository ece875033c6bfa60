-- The painter's belief about the terminal, and the states that agree with it.
use Rattle.std.specs.Prelude.{ℕ, ◌+◌, ◌-◌, ◌<◌, ◌≤◌, ◌≡◌, ◌⊎◌, ◌==◌, ◌&&◌, nat_le, min, Bool, true, false, Option, Some}
use Rattle.std.specs.Prelude.{None, if◌then◌else◌, List, [], ◌++◌}
use Rattle.vt_term.specs.Ends.{Ends}
use Rattle.vt_term.specs.Grid.{look_at}
use Rattle.vt_term.specs.Screen.{State, IsOfSize, is_graphic}
use Rattle.ti_rows.specs.declared.rows.Row.{Row}
use Rattle.ti_rows.specs.declared.rows.Row.TheVariants.{Smacs, Rmacs, Civis, Cnorm, Cvvis}
use Rattle.ti_rows.specs.Starts.{Starts}
use Rattle.ti_conforms.specs.Certified.{Table, IsReady, Ended, has, text_of}
use Rattle.cur_steps.specs.Inks.{rendition_of, look_of, IsColored}
use Rattle.cur_steps.specs.declared.inks.Ink.{Ink}
pub use Rattle.cur_steps.specs.declared.beliefs.Place.{Place}
pub use Rattle.cur_steps.specs.declared.beliefs.Belief.{Belief}
pub use Rattle.cur_steps.specs.declared.beliefs.Mode.{Mode}
pub use Rattle.cur_steps.specs.declared.beliefs.Mode.TheVariants.{Hidden, Normal, Prominent}

-- the cursor is at this place; a column past the last one is a wrap pending in the last column (VT100 user guide,
-- autowrap)
abbrev pub IsHere : ℕ → Place → ℕ → ℕ → Bool → Type 0
IsHere cols p row col pending = (row ≡ p.row) × (col ≡ min p.col (cols - 1)) × (pending ≡ nat_le cols p.col)

-- the next character goes to this place: the cursor is there, or a wrap is pending in the line above
abbrev pub IsNext : ℕ → Place → ℕ → ℕ → Type 0
IsNext cols place row col = (place ≡ record { row = row; col = col })
    ⊎ ((place ≡ record { row = row - 1; col = cols }) × (1 ≤ row) × (col ≡ 0))

abbrev pub IsSo : Option Bool → Bool → Type 0
IsSo None b = Unit {0}
IsSo (Some a) b = b ≡ a

abbrev pub is_shown : Mode → Bool
is_shown Hidden = false
is_shown Normal = true
is_shown Prominent = true

abbrev pub IsSeen : Option Mode → Bool → Type 0
IsSeen None visible = Unit {0}
IsSeen (Some m) visible = visible ≡ is_shown m

-- the state is ready, shows these cells, and the belief is true of it
pub record Agrees (t : Table) (g : ℕ → ℕ → Ink) (b : Belief) (s : State) : Type 0 where
  pub ready : IsReady t s
  pub cells : (i j : ℕ) → i < t.rows → j < t.cols → look_at s.screen.grid i j ≡ look_of t.looks (g i j)
  pub place : IsHere t.cols b.place s.screen.row s.screen.col s.screen.pending
  pub brush : s.screen.rendition ≡ rendition_of t.looks b.brush
  pub colored : IsColored t b.brush
  pub set : IsSo b.graphic (is_graphic s.screen.charset)
  pub seen : IsSeen b.mode s.screen.visible

-- a row's line leads from the first cells and belief to the second
pub record Turns (t : Table) (row : Row) (g : ℕ → ℕ → Ink) (b : Belief) (h : ℕ → ℕ → Ink) (c : Belief) : Type 0 where
  pub starts : (s : State) → Agrees t g b s → Starts t.rows t.cols row s.screen
  pub ends : (s u : State) → Agrees t g b s → IsOfSize t.rows t.cols u → u.rest ≡ []
      → Ended t row s.screen u.screen → Agrees t h c u

-- a row's line leads from the first belief to the second; if there is no line, the second is true wherever the first is
pub record Passes (t : Table) (row : Row) (g : ℕ → ℕ → Ink) (b c : Belief) : Type 0 where
  pub turns : has t row ≡ true → Turns t row g b g c
  pub stays : has t row ≡ false → (s : State) → Agrees t g b s → Agrees t g c s

-- from each state that agrees with the first cells and belief, a run over the bytes leads to one that agrees with the
-- second
abbrev pub LeadsTo : Table → List ℕ → (ℕ → ℕ → Ink) → Belief → (ℕ → ℕ → Ink) → Belief → Type 0
LeadsTo t bytes g b h c = (s : State) → Agrees t g b s → Ends s bytes (Agrees t h c)

-- the number of moves to a place: none or one
abbrev pub moves : Place → ℕ → ℕ → ℕ
moves p row col = if (p.row == row) && (p.col == col) then 0 else 1

-- the row whose line makes a set the active one
abbrev pub set_row : Bool → Row
set_row true = Smacs
set_row false = Rmacs

-- the most bytes that the parts of a cell take
abbrev pub plain_limit : Table → ℕ
plain_limit t = t.longest.op + t.longest.sgr

abbrev pub colors_limit : Table → ℕ
colors_limit t = t.longest.setaf + t.longest.setab

abbrev pub brush_limit : Table → ℕ
brush_limit t = plain_limit t + colors_limit t

abbrev pub ready_limit : Table → ℕ
ready_limit t = t.longest.cup + brush_limit t

abbrev pub stamp_limit : Table → ℕ
stamp_limit t = t.longest.sets + 1

abbrev pub ink_limit : Table → ℕ
ink_limit t = brush_limit t + stamp_limit t

abbrev pub modes_limit : Table → ℕ
modes_limit t = t.longest.civis + t.longest.cnorm + t.longest.cvvis

abbrev pub same_mode : Mode → Mode → Bool
same_mode Hidden Hidden = true
same_mode Normal Normal = true
same_mode Prominent Prominent = true
same_mode Hidden Normal = false
same_mode Hidden Prominent = false
same_mode Normal Hidden = false
same_mode Normal Prominent = false
same_mode Prominent Hidden = false
same_mode Prominent Normal = false

-- the number of changes of the mode: none or one
abbrev pub changes : Option Mode → Mode → ℕ
changes None m = 1
changes (Some n) m = if same_mode n m then 0 else 1

-- the row whose line makes the cursor as a mode says; a very visible one is shown normally before
abbrev pub mode_row : Mode → Row
mode_row Hidden = Civis
mode_row Normal = Cnorm
mode_row Prominent = Cvvis

-- for the mode that hides the cursor: the entry can hide it, and show it again
abbrev pub CanHide : Table → Mode → Type 0
CanHide t Hidden = (has t Civis ≡ true) × (has t Cnorm ≡ true)
CanHide t Normal = Unit {0}
CanHide t Prominent = Unit {0}

-- The strings that show the cursor in a mode: for a very visible one the string for the normal mode, and then its own.
-- A string that the entry lacks is empty (X/Open Curses Issue 7, curs_set; terminfo(5), "Highlighting, Underlining, and
-- Visible Bells").
abbrev pub setting_text : Table → Mode → List ℕ
setting_text t Hidden = text_of t Civis
setting_text t Normal = text_of t Cnorm
setting_text t Prominent = text_of t Cnorm ++ text_of t Cvvis

-- nothing if the cursor is known to be in the mode
abbrev pub mode_text : Table → Option Mode → Mode → List ℕ
mode_text t None m = setting_text t m
mode_text t (Some n) m = if same_mode n m then [] else setting_text t m
