-- The places of the screen after a part of a pad was shown (X/Open Curses Issue 7, pnoutrefresh).
use Rattle.std.specs.Prelude.{◌≡◌, ℕ, ◌+◌, ◌-◌, ◌<◌, ◌&&◌, length, Ok, Err, IfOk, if◌then◌else◌, ℤ, pos}
use Rattle.cur_drawing.specs.declared.refusals.Refusal.{Refusal}
use Rattle.cur_drawing.specs.Grids.{line_at, cell_at}
use Rattle.cur_screens.specs.declared.slots.Slot.{Slot}
use Rattle.cur_windows.specs.Desks.{State, cell, slot_of}
use Rattle.cur_windows.specs.Laws.{is_between}
use Rattle.cur_screens.specs.VirtualScreen.{Screen}
use Rattle.cur_windows.specs.Refreshes.{Refresh}
use Rattle.cur_pads.specs.Displays.{start, pnoutrefresh}

-- the places from (top, left) to (bottom, right) have the pad's cells from (y, x) on, and all others keep their cells
abbrev pub IsShown : State → Slot → Screen → Screen → ℕ → ℕ → ℕ → ℕ → ℕ → ℕ → Type 0
IsShown d s old new y x top left bottom right = (i j : ℕ) → j < length (line_at old.grid i) →
    cell_at new.grid i j ≡
    (if is_between top bottom i && is_between left right j then cell d s (y + (i - top)) (x + (j - left))
    else cell_at old.grid i j)

-- a part that is shown is shown so; a negative first row or column counts as 0, and a negative end is always refused
abbrev pub ShowsCells : State → Screen → ℕ → ℤ → ℤ → ℤ → ℤ → ℕ → ℕ → Type 0
ShowsCells d v n pr pc sr sc bottom right = (after : State) (new : Screen) →
    pnoutrefresh d v n pr pc sr sc (pos bottom) (pos right) ≡ (after, new, Ok tt) →
    IfOk (slot_of d n) (λ s. IsShown d s v new (start pr) (start pc) (start sr) (start sc) bottom right)

-- a step that is a refusal leaves the desk and the screen as they were
abbrev pub BothUnchangedIfRefused : State → Screen → Refresh → Type 0
BothUnchangedIfRefused d v x = (e : Refusal) → x.2 ≡ Err e → (x.0 ≡ d) × (x.1 ≡ v)
