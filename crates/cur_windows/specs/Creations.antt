-- Making, moving and deleting windows (X/Open Curses Issue 7, newwin, subwin, derwin, delwin, mvwin).
use Rattle.std.specs.Prelude.{ℕ, ◌+◌, ◌<◌, ◌≤◌, ◌==◌, ◌&&◌, ◌||◌, nat_lt, not, List, [], ◌∷◌, length, slice_set, Bool}
use Rattle.std.specs.Prelude.{true, false, Option, Some, None, Result, Ok, Err, if◌then◌else◌, ℤ, pos, ◌-ℤ◌}
use Rattle.grids.specs.declared.areas.Area.{Area}
use Rattle.cur_drawing.specs.declared.refusals.Refusal.{Refusal}
use Rattle.cur_drawing.specs.declared.refusals.Refusal.TheVariants.{Full, NumberUsed, OutOfScreen, OutOfWindow, PadKind}
use Rattle.cur_drawing.specs.declared.refusals.Refusal.TheVariants.{IsScreen, HasChildren, IsSub}
use Rattle.cur_drawing.specs.declared.windows.Window.{Window}
use Rattle.cur_drawing.specs.Grids.{Grid, blank, line_at, copied}
use Rattle.cur_drawing.specs.Windows.{fresh}
use Rattle.cur_drawing.specs.Calls.{place}
use Rattle.cur_drawing.specs.Spans.{area_within, start_within}
use Rattle.cur_screens.specs.declared.slots.Origin.{Origin}
use Rattle.cur_screens.specs.declared.slots.Slot.{Slot}
use Rattle.cur_windows.specs.Desks.{State, DeskStep, after, last_number, slot_of, grid_at, origin_at, window_at}
use Rattle.cur_windows.specs.Desks.{on_screen}
use Rattle.cur_screens.specs.Slots.{whole_area}

abbrev pub is_some_slot : Option Slot → Bool
is_some_slot (Some s) = true
is_some_slot None = false

-- the number can name a new window
abbrev pub free : State → ℕ → Result (Unit {0}) Refusal
free d n = if nat_lt last_number n then Err Full else if is_some_slot (window_at d n) then Err NumberUsed else Ok tt

-- window n is made with a grid of its own
abbrev pub root_added : State → ℕ → Grid → Origin → Window → State
root_added d n g o w = record d {
  grids = slice_set d.grids n g;
  origins = slice_set d.origins n o;
  windows = slice_set d.windows n (Some (record { root = n; parent = None; window = w }));
}

-- newwin
abbrev pub newwin : State → ℕ → ℤ → ℤ → ℤ → ℤ → DeskStep
newwin d n lines cols y x =
    after (free d n) d (λ u. after (area_within d.rows d.cols lines cols y x OutOfScreen) d (λ a.
    (root_added d n (blank a.rows a.cols) (on_screen a.top a.left false) (fresh (whole_area a.rows a.cols)), Ok tt)))

-- a rectangle of a window, in the places of its grid
abbrev pub inside : Area → Area → Area
inside outer a = record a { top = outer.top + a.top; left = outer.left + a.left }

-- window n is made as a part of another window
abbrev pub subwindow_added : State → ℕ → ℕ → Slot → Area → State
subwindow_added d n parent s a =
    record d {
      windows = slice_set d.windows n
          (Some (record { root = s.root; parent = Some parent; window = fresh (inside s.window.area a) }));
    }

-- the window isn't a pad
abbrev pub window_only : State → Slot → Result (Unit {0}) Refusal
window_only d s = if (origin_at d s.root).pad then Err PadKind else Ok tt

-- both numbers can name windows
abbrev pub in_range : ℕ → ℕ → Result (Unit {0}) Refusal
in_range n w = if nat_lt last_number n || nat_lt last_number w then Err Full else Ok tt

-- a part of window w, at a place relative to its place (top, left)
abbrev pub subwindow_at : State → ℕ → ℕ → Slot → ℤ → ℤ → ℤ → ℤ → DeskStep
subwindow_at d n w s lines cols y x =
    after (area_within s.window.area.rows s.window.area.cols lines cols y x OutOfWindow) d (λ a.
    (subwindow_added d n w s a, Ok tt))

-- derwin: the place is relative to the window's corner
abbrev pub derwin : State → ℕ → ℕ → ℤ → ℤ → ℤ → ℤ → DeskStep
derwin d n w lines cols y x =
    after (in_range n w) d (λ u. after (free d n) d (λ u. after (slot_of d w) d (λ s. after (window_only d s) d (λ u.
    subwindow_at d n w s lines cols y x))))

-- the place of a window's corner on the screen
abbrev pub corner : State → Slot → ℕ × ℕ
corner d s = ((origin_at d s.root).top + s.window.area.top, (origin_at d s.root).left + s.window.area.left)

-- subwin: the place is relative to the screen's corner
abbrev pub subwin : State → ℕ → ℕ → ℤ → ℤ → ℤ → ℤ → DeskStep
subwin d n w lines cols y x =
    after (in_range n w) d (λ u. after (free d n) d (λ u. after (slot_of d w) d (λ s. after (window_only d s) d (λ u.
    subwindow_at d n w s lines cols (y -ℤ pos (corner d s).0) (x -ℤ pos (corner d s).1)))))

-- another window has window n as its parent, or has n's grid
abbrev pub is_parent : ℕ → Option ℕ → Bool
is_parent n (Some p) = p == n
is_parent n None = false

abbrev pub is_child : ℕ → ℕ → Option Slot → Bool
is_child n k (Some s) = not (k == n) && (is_parent n s.parent || (s.root == n))
is_child n k None = false

-- one of these windows is such a child of window n; the first of them is window k
abbrev pub has_child : ℕ → ℕ → List (Option Slot) → Bool
has_child n k [] = false
has_child n k (o ∷ os) = is_child n k o || has_child n (k + 1) os

abbrev pub childless : State → ℕ → Result (Unit {0}) Refusal
childless d n = if n == 0 then Err IsScreen else if has_child n 0 d.windows then Err HasChildren else Ok tt

-- delwin
abbrev pub delwin : State → ℕ → DeskStep
delwin d n = after (slot_of d n) d (λ s. after (childless d n) d (λ u.
    (record d { grids = slice_set d.grids n []; windows = slice_set d.windows n None }, Ok tt)))

abbrev pub no_sub : Option ℕ → Result (Unit {0}) Refusal
no_sub None = Ok tt
no_sub (Some p) = Err IsSub

abbrev pub moved : State → Slot → Option ℕ → Option ℕ → DeskStep
moved d s (Some y) (Some x) = (record d { origins = slice_set d.origins s.root (on_screen y x false) }, Ok tt)
moved d s (Some y) None = (d, Err OutOfScreen)
moved d s None x = (d, Err OutOfScreen)

-- mvwin: subwindows move with their window, since they are parts of its grid
abbrev pub mvwin : State → ℕ → ℤ → ℤ → DeskStep
mvwin d n y x = after (slot_of d n) d (λ s. after (window_only d s) d (λ u. after (no_sub s.parent) d (λ u.
    moved d s (start_within y s.window.area.rows d.rows) (start_within x s.window.area.cols d.cols))))

-- a grid at a place of the screen is within the screen
pub record IsInFrame (height width : ℕ) (o : Origin) (g : Grid) : Type 0 where
  pub high : o.top + length g ≤ height
  pub wide : (i : ℕ) → i < length g → o.left + length (line_at g i) ≤ width

-- the place of the copy of a window: that of the window; a pad has none
abbrev pub copy_origin : State → Slot → Origin
copy_origin d s = if (origin_at d s.root).pad then on_screen 0 0 true else on_screen (corner d s).0 (corner d s).1 false

-- the copy's grid: the window's cells
abbrev pub copy_grid : State → Slot → Grid
copy_grid d s =
    copied (whole_area s.window.area.rows s.window.area.cols) (place s.window.area.top s.window.area.left)
    (grid_at d s.root)
    (blank s.window.area.rows s.window.area.cols)

-- dupwin: a window of its own with the same cells, cursor, attributes, background and options
abbrev pub dupwin : State → ℕ → ℕ → DeskStep
dupwin d n w =
    after (in_range n w) d (λ u. after (free d n) d (λ u. after (slot_of d w) d (λ s. (
      root_added d n (copy_grid d s) (copy_origin d s)
          (record s.window { area = whole_area s.window.area.rows s.window.area.cols }),
      Ok tt,
    ))))
