-- A program's queries of a window (X/Open Curses Issue 7, getyx, getbegyx, getbkgd, inch).
use Rattle.std.specs.Prelude.{◌≡◌, ℕ, ◌+◌, ◌<◌, Option, Some, None, IsSome, if◌then◌else◌, Result, Ok, Err}
use Rattle.grids.specs.declared.areas.Place.{Place}
use Rattle.cur_drawing.specs.declared.refusals.Refusal.{Refusal}
use Rattle.cur_drawing.specs.declared.windows.Window.{Window}
use Rattle.cur_drawing.specs.Cells.{Content}
use Rattle.cur_screens.specs.declared.slots.Slot.{Slot}
use Rattle.cur_windows.specs.Desks.{State, slot_of, window_at, window_count, origin_at, cell}

-- the answer of a query, or the refusal if no window has the number
abbrev pub asked : {A : Type 0} → (Slot → A) → Result Slot Refusal → Result A Refusal
asked answer (Ok s) = Ok (answer s)
asked answer (Err e) = Err e

-- the cursor, the rectangle, the attributes, the pair, the background, the options and the region
abbrev pub window_of : State → ℕ → Result Window Refusal
window_of d n = asked (λ s. s.window) (slot_of d n)

-- the parent of a subwindow
abbrev pub parent_of : State → ℕ → Result (Option ℕ) Refusal
parent_of d n = asked (λ s. s.parent) (slot_of d n)

-- the cell under the cursor
abbrev pub cell_of : State → ℕ → Result Content Refusal
cell_of d n = asked (λ s. cell d s s.window.row s.window.col) (slot_of d n)

-- the place of a window's corner on the screen; a pad has none
abbrev pub corner : State → Slot → Option Place
corner d s =
    if (origin_at d s.root).pad then None else Some (record {
      row = (origin_at d s.root).top + s.window.area.top;
      col = (origin_at d s.root).left + s.window.area.left;
    })

-- the place of the corner of the window of a number
abbrev pub corner_of : State → ℕ → Result (Option Place) Refusal
corner_of d n = asked (corner d) (slot_of d n)

-- no window has this number, and all lower ones are used
pub record IsFirstFree (d : State) (n : ℕ) : Type 0 where
  pub below : n < window_count
  pub free : window_at d n ≡ None
  pub taken : (k : ℕ) → k < n → IsSome (window_at d k)
