-- The numbers of lines and columns of a window (X/Open Curses Issue 7, getmaxyx).
use Rattle.std.specs.Prelude.{ℕ, Result, Ok, Err}
use Rattle.cur_drawing.specs.declared.refusals.Refusal.{Refusal}
use Rattle.cur_screens.specs.declared.slots.Slot.{Slot}
use Rattle.cur_windows.specs.Desks.{State, slot_of}

abbrev pub size_in : Result Slot Refusal → Result (ℕ × ℕ) Refusal
size_in (Ok s) = Ok (s.window.area.rows, s.window.area.cols)
size_in (Err e) = Err e

-- the lines and columns of the window of a number
abbrev pub window_size : State → ℕ → Result (ℕ × ℕ) Refusal
window_size d n = size_in (slot_of d n)
