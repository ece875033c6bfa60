-- Copying a window to the virtual screen (X/Open Curses Issue 7, noutrefresh).
use Rattle.std.specs.Prelude.{ℕ, ℤ, ◌+◌, ◌-◌, ◌≡◌, ◌<◌, ◌≤◌, false, nat_le, Option, Some, None, Result, Ok, Err}
use Rattle.std.specs.Prelude.{if◌then◌else◌}
use Rattle.grids.specs.declared.areas.Area.{Area}
use Rattle.grids.specs.declared.areas.Place.{Place}
use Rattle.cur_drawing.specs.declared.refusals.Refusal.{Refusal}
use Rattle.cur_drawing.specs.declared.refusals.Refusal.TheVariants.{BadRegion}
use Rattle.cur_drawing.specs.Windows.{place_below}
use Rattle.cur_drawing.specs.Calls.{place}
use Rattle.cur_screens.specs.declared.slots.Slot.{Slot}
use Rattle.cur_windows.specs.Desks.{State, grid_at, origin_at, slot_of, with_window}
use Rattle.cur_windows.specs.Creations.{corner, window_only}
use Rattle.cur_screens.specs.VirtualScreen.{Screen, shown}

-- the rectangle of a window on the screen, and the place of its cursor there
abbrev pub area_on_screen : State → Slot → Area
area_on_screen d s =
    record { top = (corner d s).0; left = (corner d s).1; rows = s.window.area.rows; cols = s.window.area.cols }

abbrev pub cursor_on_screen : State → Slot → Option Place
cursor_on_screen d s =
    if s.window.leaves then None else Some (place ((corner d s).0 + s.window.row) ((corner d s).1 + s.window.col))

-- the desk and the screen after a refresh, and the answer
abbrev pub Refresh : Type 0
Refresh = State × Screen × Result (Unit {0}) Refusal

abbrev pub refresh : State → Screen → Result (Unit {0}) Refusal → Refresh
refresh d v r = (d, v, r)

abbrev pub if_shown : {A : Type 0} → Result A Refusal → State → Screen → (A → Refresh) → Refresh
if_shown (Ok a) d v next = next a
if_shown (Err e) d v next = (d, v, Err e)

-- noutrefresh copies the whole window to the screen, which takes over its clearok
abbrev pub noutrefresh : State → Screen → ℕ → Refresh
noutrefresh d v n = if_shown (slot_of d n) d v (λ s. if_shown (window_only d s) d v (λ u. (
  with_window d n s (record s.window { clears = false }),
  shown (area_on_screen d s) (grid_at d s.root) (place s.window.area.top s.window.area.left)
      (cursor_on_screen d s) s.window.clears v,
  Ok tt,
)))

-- ---- some lines of a window

abbrev pub lines_between : Option ℕ → Option ℕ → Area → Result Area Refusal
lines_between (Some t) (Some b) a =
    if nat_le t b then Ok (record a { top = a.top + t; rows = b + 1 - t }) else Err BadRegion
lines_between (Some t) None a = Err BadRegion
lines_between None b a = Err BadRegion

-- the lines from `t` to `b` of a window's rectangle, which must be lines of it, in order
abbrev pub lines_of : ℤ → ℤ → Area → Result Area Refusal
lines_of t b a = lines_between (place_below t a.rows) (place_below b a.rows) a

-- a rectangle of a window's grid, as a rectangle of the screen
abbrev pub part_on_screen : State → Slot → Area → Area
part_on_screen d s a = record a {
  top = (origin_at d s.root).top + a.top;
  left = (origin_at d s.root).left + a.left;
}

-- the lines from `t` to `b` of a window are copied to the screen; all else is as noutrefresh does it
abbrev pub noutrefresh_lines : State → Screen → ℕ → ℤ → ℤ → Refresh
noutrefresh_lines d v n t b = if_shown (slot_of d n) d v (λ s. if_shown (window_only d s) d v (λ u.
    if_shown (lines_of t b s.window.area) d v (λ a. (
      with_window d n s (record s.window { clears = false }),
      shown (part_on_screen d s a) (grid_at d s.root) (place a.top a.left) (cursor_on_screen d s) s.window.clears v,
      Ok tt,
    ))))

-- (Serves the code alone.) a rectangle is one or more lines of another one
pub record AreLinesOf (a part : Area) : Type 0 where
  pub some : 0 < part.rows
  pub top : a.top ≤ part.top
  pub bottom : part.top + part.rows ≤ a.top + a.rows
  pub left : part.left ≡ a.left
  pub cols : part.cols ≡ a.cols
