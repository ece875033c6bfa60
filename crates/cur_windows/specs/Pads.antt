-- The calls that the crate of pads uses: a pad isn't on the screen, but parts of it can be shown (X/Open Curses Issue
-- 7, newpad, subpad, pnoutrefresh).
use Rattle.std.specs.Prelude.{ℕ, ◌+◌, Bool, true, false, Result, Ok, Err}
use Rattle.grids.specs.declared.areas.Area.{Area}
use Rattle.grids.specs.declared.areas.Place.{Place}
use Rattle.cur_drawing.specs.declared.refusals.Refusal.{Refusal}
use Rattle.cur_drawing.specs.Grids.{blank, moved_to}
use Rattle.cur_drawing.specs.Windows.{fresh, part_cursor}
use Rattle.cur_drawing.specs.Calls.{place}
use Rattle.cur_screens.specs.declared.slots.Slot.{Slot}
use Rattle.cur_windows.specs.Desks.{State, slot_of, grid_at, origin_at, on_screen, with_window}
use Rattle.cur_screens.specs.Slots.{whole_area}
use Rattle.cur_windows.specs.Creations.{root_added}
use Rattle.cur_screens.specs.VirtualScreen.{Screen, shown}

abbrev pub pad_of : State → Result Slot Refusal → Result Bool Refusal
pad_of d (Ok s) = Ok (origin_at d s.root).pad
pad_of d (Err e) = Err e

-- whether the number names a pad or a part of one
abbrev pub is_pad : State → ℕ → Result Bool Refusal
is_pad d n = pad_of d (slot_of d n)

-- window n is made, a pad of `rows` rows and `cols` columns
abbrev pub pad_added : State → ℕ → ℕ → ℕ → State
pad_added d n rows cols = root_added d n (blank rows cols) (on_screen 0 0 true) (fresh (whole_area rows cols))

-- a part of window n is copied to a place of the screen, which takes over the window's clearok
abbrev pub part_shown : State → Screen → ℕ → Slot → Area → Place → State × Screen
part_shown d v n s part to = (
  with_window d n s (record s.window { clears = false }),
  shown (moved_to part to) (grid_at d s.root) (place (s.window.area.top + part.top) (s.window.area.left + part.left))
      (part_cursor s.window part to) s.window.clears v,
)
