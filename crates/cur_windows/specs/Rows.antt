-- One line of a window that is borrowed for writing.
use Rattle.std.specs.Prelude.{ℕ, List, ◌+◌, ◌<◌, nat_lt, slice_set, Result, Ok, Err, if◌then◌else◌}
use Rattle.grids.specs.declared.areas.Area.{Area}
use Rattle.cur_drawing.specs.declared.refusals.Refusal.{Refusal}
use Rattle.cur_drawing.specs.declared.refusals.Refusal.TheVariants.{OutOfWindow}
use Rattle.cur_drawing.specs.Cells.{Content}
use Rattle.cur_drawing.specs.Grids.{one, filled, part_written}
use Rattle.cur_drawing.specs.Calls.{IsCanvas}
use Rattle.cur_windows.specs.declared.rows.RowMut.{RowMut}
use Rattle.cur_screens.specs.declared.slots.Slot.{Slot}
use Rattle.cur_windows.specs.Desks.{State, grid_at, slot_of, window_count}

-- the window is within its grid and has such a line
pub record IsLine (d : State) (s : Slot) (y : ℕ) : Type 0 where
  pub root : s.root < window_count
  pub canvas : IsCanvas (grid_at d s.root) s.window
  pub within : y < s.window.area.rows

abbrev pub line_in : ℕ → Result Slot Refusal → Result Slot Refusal
line_in y (Ok s) = if nat_lt y s.window.area.rows then Ok s else Err OutOfWindow
line_in y (Err e) = Err e

-- the window of a number, if it has such a line
abbrev pub line_of : State → ℕ → ℕ → Result Slot Refusal
line_of d n y = line_in y (slot_of d n)

abbrev pub lent_of : Result RowMut Refusal → Result Slot Refusal
lent_of (Ok r) = Ok r.slot
lent_of (Err e) = Err e

-- the cells of line y of the window become `cells`, and nothing else changes
abbrev pub row_written : State → Slot → ℕ → List Content → State
row_written d s y cells =
    record d {
      grids = slice_set d.grids s.root
          (part_written (s.window.area.top + y) s.window.area.left cells (grid_at d s.root));
    }

-- the places of the line's first n cells
abbrev pub line_area : Slot → ℕ → ℕ → Area
line_area s y n = record { top = s.window.area.top + y; left = s.window.area.left; rows = 1; cols = n }

-- the cell at the place y x of the window becomes c, and nothing else changes
abbrev pub place_written : State → Slot → ℕ → ℕ → Content → State
place_written d s y x c =
    record d {
      grids = slice_set d.grids s.root
          (filled (one (s.window.area.top + y) (s.window.area.left + x)) c (grid_at d s.root));
    }

-- a desk after a cell was written through a line, if there is such a line
abbrev pub written_through : Result Slot Refusal → State → ℕ → ℕ → Content → State
written_through (Ok s) d y x c = place_written d s y x c
written_through (Err e) d y x c = d
