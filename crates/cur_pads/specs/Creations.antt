-- Making pads (X/Open Curses Issue 7, newpad, subpad). A pad is a window that isn't on the screen.
use Rattle.std.specs.Prelude.{ℕ, ◌&&◌, nat_lt, nat_le, Option, Some, None, Result, Ok, Err, if◌then◌else◌, ℤ, pos}
use Rattle.std.specs.Prelude.{negsuc}
use Rattle.cur_drawing.specs.declared.refusals.Refusal.{Refusal}
use Rattle.cur_drawing.specs.declared.refusals.Refusal.TheVariants.{BadRegion, PadKind}
use Rattle.cur_drawing.specs.Windows.{most_lines}
use Rattle.cur_screens.specs.declared.slots.Slot.{Slot}
use Rattle.cur_windows.specs.Desks.{State, DeskStep, after, slot_of, origin_at}
use Rattle.cur_windows.specs.Creations.{free, in_range, subwindow_at}
use Rattle.cur_windows.specs.Pads.{pad_added}

-- a number of lines or columns that a pad can have
abbrev pub side : ℤ → Option ℕ
side (pos n) = if nat_lt 0 n && nat_le n most_lines then Some n else None
side (negsuc n) = None

abbrev pub both_sides : Option ℕ → Option ℕ → Result (ℕ × ℕ) Refusal
both_sides (Some rows) (Some cols) = Ok (rows, cols)
both_sides (Some rows) None = Err BadRegion
both_sides None cols = Err BadRegion

-- newpad
abbrev pub newpad : State → ℕ → ℤ → ℤ → DeskStep
newpad d n lines cols =
    after (free d n) d (λ u.
    after (both_sides (side lines) (side cols)) d (λ size. (pad_added d n size.0 size.1, Ok tt)))

abbrev pub pad_only : State → Result Slot Refusal → Result Slot Refusal
pad_only d (Ok s) = if (origin_at d s.root).pad then Ok s else Err PadKind
pad_only d (Err e) = Err e

-- the pad, or part of one, of a number
abbrev pub pad_of : State → ℕ → Result Slot Refusal
pad_of d n = pad_only d (slot_of d n)

-- subpad: the place is relative to the pad's corner
abbrev pub subpad : State → ℕ → ℕ → ℤ → ℤ → ℤ → ℤ → DeskStep
subpad d n w lines cols y x =
    after (in_range n w) d (λ u.
    after (free d n) d (λ u. after (pad_of d w) d (λ s. subwindow_at d n w s lines cols y x)))
