-- The view of a window: its cells, as a grid of its own.
use Rattle.std.specs.Prelude.{◌+◌, ◌≤◌, ℕ, List, map, take, drop, Result, Ok, Err}
use Rattle.grids.specs.declared.areas.Area.{Area}
use Rattle.cur_drawing.specs.declared.refusals.Refusal.{Refusal}
use Rattle.cur_drawing.specs.Cells.{Content}
use Rattle.cur_drawing.specs.Grids.{Grid, Fits}
use Rattle.cur_drawing.specs.Windows.{most_lines}
use Rattle.cur_screens.specs.declared.slots.Slot.{Slot}
use Rattle.cur_windows.specs.Desks.{State, grid_at, slot_of}

-- the part of a line that is in the rectangle's columns
abbrev pub cut : Area → List Content → List Content
cut a line = take a.cols (drop a.left line)

abbrev pub window_cells : Area → Grid → Grid
window_cells a g = map (cut a) (take a.rows (drop a.top g))

-- a rectangle that is within its grid
pub record IsSeen (a : Area) (g : Grid) : Type 0 where
  pub fits : Fits a g
  pub height : a.top + a.rows ≤ most_lines

abbrev pub seen_of : State → Result Slot Refusal → Result Grid Refusal
seen_of d (Ok s) = Ok (window_cells s.window.area (grid_at d s.root))
seen_of d (Err e) = Err e

-- the cells of the window of a number
abbrev pub seen : State → ℕ → Result Grid Refusal
seen d n = seen_of d (slot_of d n)
