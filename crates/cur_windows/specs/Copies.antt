-- Copying from one window to another (X/Open Curses Issue 7, overlay, overwrite, copywin). The source is read as it
-- was before the call, even if both windows are parts of one grid.
use Rattle.std.specs.Prelude.{ℕ, ◌+◌, ◌||◌, slice_set, Bool, Option, Some, None, Result, Ok, Err, if◌then◌else◌, ℤ}
use Rattle.std.specs.Prelude.{int_lt}
use Rattle.grids.specs.declared.areas.Area.{Area}
use Rattle.grids.specs.declared.areas.Place.{Place}
use Rattle.cur_drawing.specs.declared.refusals.Refusal.{Refusal}
use Rattle.cur_drawing.specs.declared.refusals.Refusal.TheVariants.{BadRegion, OutOfWindow}
use Rattle.cur_drawing.specs.Grids.{overlaid}
use Rattle.cur_drawing.specs.Calls.{place}
use Rattle.cur_drawing.specs.declared.spans.CopySpan.{CopySpan}
use Rattle.cur_screens.specs.declared.slots.Slot.{Slot}
use Rattle.cur_windows.specs.Desks.{State, DeskStep, after, slot_of, grid_at}
use Rattle.cur_windows.specs.Creations.{in_range, window_only}
use Rattle.cur_drawing.specs.Spans.{common, matched}
use Rattle.cur_windows.specs.Refreshes.{area_on_screen}

-- the places of the lines and columns in the destination's grid, and in the source's
abbrev pub target_area : Slot → CopySpan → CopySpan → Area
target_area t v h =
    record { top = t.window.area.top + v.to; left = t.window.area.left + h.to; rows = v.count; cols = h.count }

abbrev pub source_place : Slot → CopySpan → CopySpan → Place
source_place s v h = place (s.window.area.top + v.from) (s.window.area.left + h.from)

abbrev pub spans_copied : State → Slot → Slot → CopySpan → CopySpan → Bool → State
spans_copied d s t v h skip =
    record d {
      grids = slice_set d.grids t.root
          (overlaid (target_area t v h) (source_place s v h) skip (grid_at d s.root) (grid_at d t.root));
    }

-- these lines and columns are copied if there are any; else nothing changes, and this is the answer
abbrev pub copied_or : Result (Unit {0}) Refusal → State → Slot → Slot → Bool → Option CopySpan → Option CopySpan
    → DeskStep
copied_or otherwise d s t skip (Some v) (Some h) = (spans_copied d s t v h skip, Ok tt)
copied_or otherwise d s t skip (Some v) None = (d, otherwise)
copied_or otherwise d s t skip None h = (d, otherwise)

-- the part that both windows have on the screen is copied
abbrev pub common_copied : State → Slot → Slot → Bool → DeskStep
common_copied d s t skip =
    let a = area_on_screen d s in let b = area_on_screen d t in
    copied_or (Ok tt) d s t skip (common a.top a.rows b.top b.rows) (common a.left a.cols b.left b.cols)

-- overwrite, and overlay, which skips spaces
abbrev pub common_part : Bool → State → ℕ → ℕ → DeskStep
common_part skip d n m =
    after (in_range n m) d (λ u. after (slot_of d n) d (λ s. after (slot_of d m) d (λ t.
    after (window_only d s) d (λ u. after (window_only d t) d (λ u. common_copied d s t skip)))))

-- no last line or column is before the first one
abbrev pub in_order : ℤ → ℤ → ℤ → ℤ → Result (Unit {0}) Refusal
in_order top bottom left right = if int_lt bottom top || int_lt right left then Err BadRegion else Ok tt

-- copywin: into the destination's rows dr to er and columns dc to ec
abbrev pub copywin : State → ℕ → ℕ → ℤ → ℤ → ℤ → ℤ → ℤ → ℤ → Bool → DeskStep
copywin d n m sr sc dr dc er ec skip =
    after (in_range n m) d (λ u. after (slot_of d n) d (λ s. after (slot_of d m) d (λ t.
    after (in_order dr er dc ec) d (λ u.
    copied_or (Err OutOfWindow) d s t skip
    (matched sr dr er s.window.area.rows t.window.area.rows)
    (matched sc dc ec s.window.area.cols t.window.area.cols)))))
