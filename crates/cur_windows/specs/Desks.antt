-- A desk: root grids, and windows that are rectangles of them (X/Open Curses Issue 7, "Windows"). A subwindow has its
-- parent's root, so it shows and changes its parent's cells.
use Rattle.std.specs.Prelude.{◌≡◌, ℕ, ◌+◌, ◌<◌, ◌≤◌, nat_lt, List, [], length, slice_index_or, slice_set, Bool, false}
use Rattle.std.specs.Prelude.{Option, Some, None, IsSome, Result, Ok, Err, if◌then◌else◌, replicate}
use Rattle.grids.specs.declared.areas.Area.{Area}
use Rattle.cur_drawing.specs.declared.refusals.Refusal.{Refusal}
use Rattle.cur_drawing.specs.declared.refusals.Refusal.TheVariants.{NoWindow, Full}
use Rattle.cur_drawing.specs.declared.windows.Window.{Window}
use Rattle.cur_drawing.specs.Cells.{Content}
use Rattle.cur_drawing.specs.Grids.{Grid, line_at, cell_at, blank}
use Rattle.cur_drawing.specs.Windows.{WindowStep, fresh}
use Rattle.cur_drawing.specs.Calls.{Canvas, CanvasStep, IsCanvas, canvas}
use Rattle.cur_screens.specs.declared.slots.Origin.{Origin}
use Rattle.cur_screens.specs.declared.slots.Slot.{Slot}
use Rattle.cur_screens.specs.Slots.{whole_area}

-- the most windows, and their last number
abbrev pub window_count : ℕ
window_count = 64

abbrev pub last_number : ℕ
last_number = 63

-- The k-th grid is that of window k, which made it. Its origin is its place on the screen, and says whether it is a
-- pad's.
pub record State : Type 0 where
  pub rows : ℕ
  pub cols : ℕ
  pub grids : List Grid
  pub origins : List Origin
  pub windows : List (Option Slot)

abbrev pub grid_at : State → ℕ → Grid
grid_at d k = slice_index_or d.grids k []

abbrev pub on_screen : ℕ → ℕ → Bool → Origin
on_screen top left pad = record { top = top; left = left; pad = pad }

abbrev pub origin_at : State → ℕ → Origin
origin_at d k = slice_index_or d.origins k (on_screen 0 0 false)

abbrev pub window_at : State → ℕ → Option Slot
window_at d n = slice_index_or d.windows n None

-- the cell at a place of a window
abbrev pub cell : State → Slot → ℕ → ℕ → Content
cell d s y x = cell_at (grid_at d s.root) (s.window.area.top + y) (s.window.area.left + x)

-- the window's rectangle is the whole of its grid
pub record IsWhole (a : Area) (g : Grid) : Type 0 where
  pub top : a.top ≡ 0
  pub left : a.left ≡ 0
  pub rows : length g ≡ a.rows
  pub cols : (i : ℕ) → i < length g → length (line_at g i) ≡ a.cols

-- the window is within its root, which an existing window made; a window without parent made its root itself, and has
-- all of it
pub record IsPlaced (d : State) (n : ℕ) (s : Slot) : Type 0 where
  pub root : s.root < window_count
  pub canvas : IsCanvas (grid_at d s.root) s.window
  pub made : IsSome (window_at d s.root)
  pub own : s.parent ≡ None → s.root ≡ n
  pub whole : s.parent ≡ None → IsWhole s.window.area (grid_at d s.root)

-- a grid that isn't a pad's is within the screen
pub record IsFramed (d : State) (k : ℕ) : Type 0 where
  pub rows : (origin_at d k).top + length (grid_at d k) ≤ d.rows
  pub cols : (i : ℕ) → i < length (grid_at d k) → (origin_at d k).left + length (line_at (grid_at d k) i) ≤ d.cols

pub record IsDesk (d : State) : Type 0 where
  pub rows : d.rows ≤ 200
  pub cols : d.cols ≤ 500
  pub grids : length d.grids ≡ window_count
  pub origins : length d.origins ≡ window_count
  pub windows : length d.windows ≡ window_count
  pub screen : IsSome (window_at d 0)
  pub placed : (n : ℕ) (s : Slot) → window_at d n ≡ Some s → IsPlaced d n s
  pub framed : (k : ℕ) → (origin_at d k).pad ≡ false → IsFramed d k

-- the desk after a call, and its answer
abbrev pub DeskStep : Type 0
DeskStep = State × Result (Unit {0}) Refusal

abbrev pub step : State → Result (Unit {0}) Refusal → DeskStep
step d r = (d, r)

-- the next step is done only if a test passes; a refusal leaves the desk as it was
abbrev pub after : {A : Type 0} → Result A Refusal → State → (A → DeskStep) → DeskStep
after (Ok a) d next = next a
after (Err e) d next = (d, Err e)

abbrev pub some_slot : Option Slot → Result Slot Refusal
some_slot (Some s) = Ok s
some_slot None = Err NoWindow

-- the window of a number
abbrev pub slot_of : State → ℕ → Result Slot Refusal
slot_of d n = if nat_lt last_number n then Err Full else some_slot (window_at d n)

-- a window whose cursor moved to the column `col` of its line
abbrev pub in_column : ℕ → Slot → Slot
in_column col s = record s { window = record s.window { col = col } }

abbrev pub with_window : State → ℕ → Slot → Window → State
with_window d n s w = record d { windows = slice_set d.windows n (Some (record s { window = w })) }

abbrev pub with_canvas : State → ℕ → Slot → Canvas → State
with_canvas d n s t = record (with_window d n s t.window) { grids = slice_set d.grids s.root t.grid }

-- a call on one window and the grid under it
abbrev pub on_window : State → ℕ → (Canvas → CanvasStep) → DeskStep
on_window d n act =
    after (slot_of d n) d (λ s. let t = act (canvas (grid_at d s.root) s.window) in (with_canvas d n s t.0, t.1))

-- a call that changes only the grid
abbrev pub on_grid : State → ℕ → (Canvas → CanvasStep) → DeskStep
on_grid d n act = after (slot_of d n) d (λ s.
    let t = act (canvas (grid_at d s.root) s.window) in (record d { grids = slice_set d.grids s.root t.0.grid }, t.1))

-- a call on one window alone
abbrev pub on_cursor : State → ℕ → (Window → WindowStep) → DeskStep
on_cursor d n act = after (slot_of d n) d (λ s. let t = act s.window in (with_window d n s t.0, t.1))

-- an option or an attribute
abbrev pub set : State → ℕ → (Window → Window) → DeskStep
set d n change = on_cursor d n (λ w. (change w, Ok tt))

-- a call that changes nothing
abbrev pub unchanged : State → ℕ → DeskStep
unchanged d n = after (slot_of d n) d (λ s. (d, Ok tt))

-- a new desk: window 0 on a grid of the screen's size
abbrev pub new_slot : ℕ → Area → Slot
new_slot n a = record { root = n; parent = None; window = fresh a }

abbrev pub new_desk : ℕ → ℕ → State
new_desk rows cols = record {
  rows = rows;
  cols = cols;
  grids = slice_set (replicate window_count []) 0 (blank rows cols);
  origins = replicate window_count (on_screen 0 0 false);
  windows = slice_set (replicate window_count None) 0 (Some (new_slot 0 (whole_area rows cols)));
}
