-- The facts if a part was shown: all tests passed.
use Rattle.std.proofs.Common.{◌≡◌, ℕ, ◌+◌, ◌-◌, ◌<◌, ◌≤◌, ◌&&◌, ◌||◌, length, nat_le, nat_lt, Bool, true, false, refl, sym, ap, ◌∙◌, arith, if◌then◌else◌, Option, Some, None, Result, Ok, Err, ℤ, pos}
use Rattle.std.proofs.lemmas.Bool.Decides.{nat_tests}
use Rattle.grids.specs.declared.areas.Area.{Area}
use Rattle.cur_drawing.specs.declared.refusals.Refusal.{Refusal}
use Rattle.cur_drawing.specs.declared.refusals.Refusal.TheVariants.{BadRegion, PadKind, OutOfScreen, OutOfWindow}
use Rattle.cur_drawing.specs.Grids.{Grid, Fits, line_at, cell_at, copied, moved_to}
use Rattle.cur_drawing.specs.Calls.{place}
use Rattle.cur_drawing.specs.declared.spans.Span.{Span}
use Rattle.cur_screens.specs.declared.slots.Slot.{Slot}
use Rattle.cur_windows.specs.Copies.{in_order}
use Rattle.cur_windows.specs.Desks.{State, IsDesk, IsPlaced, slot_of, grid_at, origin_at}
use Rattle.cur_drawing.specs.Spans.{rectangle}
use Rattle.cur_windows.specs.Pads.{part_shown}
use Rattle.cur_screens.specs.VirtualScreen.{Screen}
use Rattle.cur_windows.specs.Refreshes.{Refresh, if_shown, refresh}
use Rattle.cur_windows.specs.Laws.{is_between}
use Rattle.cur_pads.specs.Laws.{IsShown, ShowsCells}
use Rattle.cur_pads.specs.Creations.{pad_only, pad_of}
use Rattle.cur_pads.specs.Ranges.{between, from, up_to}
use Rattle.cur_pads.specs.Displays.{done, start}
use Rattle.cur_windows.proofs.Supports.{found_there}
use Rattle.cur_pads.proofs.Places.{cell_at-shown, area_of}

-- a step after a test is done only if the test passed
passed : {A : Type 0} (r : Result A Refusal) (d e : State) (v w : Screen) (next : A → Refresh) → if_shown r d v next ≡ refresh e w (Ok tt) →
    (a : A) × (r ≡ Ok a) × (next a ≡ refresh e w (Ok tt))
passed (Ok a) d e v w next h = (a, refl, h)
passed (Err r) d e v w next h = let never : Err r ≡ Ok tt = ap (λ (x : Refresh). x.2) h in absurd cc

abbrev tested : Bool → Refusal → Result (Unit {0}) Refusal
tested o e = if o then Err e else Ok tt

le_tested : (m n : ℕ) → nat_le m n ≡ true → m ≤ n
le_tested m n e = grind (arith, nat_tests)

and_left : (a b : Bool) → (a && b) ≡ true → a ≡ true
and_left true b h = refl
and_left false b h = absurd cc

and_right : (a b : Bool) → (a && b) ≡ true → b ≡ true
and_right true b h = h
and_right false b h = absurd cc

both_ways : (o : Bool) (e : Refusal) → tested o e ≡ Ok tt → o ≡ false
both_ways true e h = absurd cc
both_ways false e h = refl

-- a rectangle has the lines and columns that it was made from
rectangle_ok : (a b : Option Span) (e : Refusal) (t : Area) → rectangle a b e ≡ Ok t →
    (a ≡ Some (record { at = t.top; size = t.rows })) × (b ≡ Some (record { at = t.left; size = t.cols }))
rectangle_ok (Some v) (Some h) e t is =
    let whole : Area = record { top = v.at; left = h.at; rows = v.size; cols = h.size } in
    let same : whole ≡ t = cc in
    let lines : Area → Option Span = λ a. Some (record { at = a.top; size = a.rows }) in
    let columns : Area → Option Span = λ a. Some (record { at = a.left; size = a.cols }) in
    (ap lines same, ap columns same)
rectangle_ok (Some v) None e t is = absurd cc
rectangle_ok None b e t is = absurd cc

between_some : (o : Bool) (at last : ℕ) (s : Span) → up_to at (if o then Some last else None) ≡ Some s → s ≡ record { at = at; size = last - at + 1 }
between_some true at last s h = cc
between_some false at last s h = absurd cc

from_some : (o : Bool) (at size : ℕ) (s : Span) → (if o then Some (record { at = at; size = size }) else None) ≡ Some s → (o ≡ true) × (s ≡ record { at = at; size = size })
from_some true at size s h = (refl, cc)
from_some false at size s h = absurd cc

abbrev kind : Bool → Slot → Result Slot Refusal
kind p s = if p then Ok s else Err PadKind

by_kind : (p : Bool) (t s : Slot) → kind p t ≡ Ok s → t ≡ s
by_kind true t s h = cc
by_kind false t s h = absurd cc

is_pad : (d : State) (r : Result Slot Refusal) (s : Slot) → pad_only d r ≡ Ok s → r ≡ Ok s
is_pad d (Ok t) s h = let same : t ≡ s = by_kind (origin_at d t.root).pad t s h in cc
is_pad d (Err e) s h = absurd cc

placed : (g old : Grid) (part to : Area) (down across top left bottom right y x : ℕ) →
    to.top ≡ top → to.left ≡ left → part.rows ≡ bottom - top + 1 → part.cols ≡ right - left + 1 → part.top ≡ y → part.left ≡ x →
    copied (moved_to part (place to.top to.left)) (place (down + part.top) (across + part.left)) g old
    ≡ copied (area_of top left (bottom - top + 1) (right - left + 1)) (place (down + y) (across + x)) g old
placed g old part to down across top left bottom right y x a b e f p q = cc

in_order_last : (top bottom left right : ℕ) → in_order (pos top) (pos bottom) (pos left) (pos right) ≡ Ok tt → (top ≤ bottom) × (left ≤ right)
in_order_last top bottom left right h =
    let kept : (nat_lt bottom top || nat_lt right left) ≡ false = both_ways (nat_lt bottom top || nat_lt right left) BadRegion h in
    (grind (arith, nat_tests), grind (arith, nat_tests))

abbrev run : ℕ → ℕ → Span
run at size = record { at = at; size = size }

-- the cells that are shown are in the pad's grid
cells_there : (g : Grid) (a : Area) (y x top left bottom right i j : ℕ) → Fits a g → y + (bottom - top + 1) ≤ a.rows → x + (right - left + 1) ≤ a.cols → top ≤ bottom → left ≤ right →
    (is_between top bottom i && is_between left right j) ≡ true → a.left + (x + (j - left)) < length (line_at g (a.top + (y + (i - top))))
cells_there g a y x top left bottom right i j fits rows cols high wide on =
    let low : (nat_le top i && nat_le i bottom) ≡ true = and_left (is_between top bottom i) (is_between left right j) on in
    let near : (nat_le left j && nat_le j right) ≡ true = and_right (is_between top bottom i) (is_between left right j) on in
    let row : i - top < bottom - top + 1 = grind (arith, nat_tests) in
    let col : j - left < right - left + 1 = grind (arith, nat_tests) in
    let whole = fits.rows in
    let line = fits.cols (a.top + (y + (i - top))) (omega arith) in omega arith

cells_shown : (d : State) (v new : Screen) (s : Slot) (to part : Area) (y x top left bottom right : ℕ) → Fits s.window.area (grid_at d s.root) → y + to.rows ≤ s.window.area.rows → x + to.cols ≤ s.window.area.cols →
    new.grid ≡ copied (moved_to part (place to.top to.left)) (place (s.window.area.top + part.top) (s.window.area.left + part.left)) (grid_at d s.root) v.grid →
    run to.top to.rows ≡ run top (bottom - top + 1) → run to.left to.cols ≡ run left (right - left + 1) →
    run part.top part.rows ≡ run y to.rows → run part.left part.cols ≡ run x to.cols → top ≤ bottom → left ≤ right →
    IsShown d s v new y x top left bottom right
cells_shown d v new s to part y x top left bottom right fits tall broad is rows cols lines columns high wide i j near =
    let g : Grid = grid_at d s.root in
    let rows_at : to.top ≡ top = ap (λ (r : Span). r.at) rows in
    let cols_at : to.left ≡ left = ap (λ (r : Span). r.at) cols in
    let height : part.rows ≡ bottom - top + 1 = ap (λ (r : Span). r.size) lines ∙ ap (λ (r : Span). r.size) rows in
    let width : part.cols ≡ right - left + 1 = ap (λ (r : Span). r.size) columns ∙ ap (λ (r : Span). r.size) cols in
    let lines_at : part.top ≡ y = ap (λ (r : Span). r.at) lines in
    let columns_at : part.left ≡ x = ap (λ (r : Span). r.at) columns in
    ap (λ (h : Grid). cell_at h i j) (is ∙ placed g v.grid part to s.window.area.top s.window.area.left top left bottom right y x rows_at cols_at height width lines_at columns_at)
    ∙ cell_at-shown g v.grid s.window.area.top s.window.area.left top left bottom right y x i j high wide near
    (cells_there g s.window.area y x top left bottom right i j fits (let n = ap (λ (r : Span). r.size) rows in omega arith) (let n = ap (λ (r : Span). r.size) cols in omega arith) high wide)

pub shows_cells : (d : State) (v : Screen) (n : ℕ) (pr pc sr sc : ℤ) (bottom right : ℕ) → IsDesk d → ShowsCells d v n pr pc sr sc bottom right
shows_cells d v n pr pc sr sc bottom right desk after new h =
    let pad = passed (pad_of d n) d after v new
    (λ (s : Slot). if_shown (in_order (pos (start sr)) (pos bottom) (pos (start sc)) (pos right)) d v (λ u.
    if_shown (rectangle (between (start sr) (pos bottom) d.rows) (between (start sc) (pos right) d.cols) OutOfScreen) d v (λ to.
    if_shown (rectangle (from (start pr) to.rows s.window.area.rows) (from (start pc) to.cols s.window.area.cols) OutOfWindow) d v (λ part.
    done (part_shown d v n s part (place to.top to.left)))))) h in
    let s : Slot = pad.0 in
    let order = passed (in_order (pos (start sr)) (pos bottom) (pos (start sc)) (pos right)) d after v new
    (λ (u : Unit {0}). if_shown (rectangle (between (start sr) (pos bottom) d.rows) (between (start sc) (pos right) d.cols) OutOfScreen) d v (λ to.
    if_shown (rectangle (from (start pr) to.rows s.window.area.rows) (from (start pc) to.cols s.window.area.cols) OutOfWindow) d v (λ part.
    done (part_shown d v n s part (place to.top to.left))))) pad.2 in
    let target = passed (rectangle (between (start sr) (pos bottom) d.rows) (between (start sc) (pos right) d.cols) OutOfScreen) d after v new
    (λ (to : Area). if_shown (rectangle (from (start pr) to.rows s.window.area.rows) (from (start pc) to.cols s.window.area.cols) OutOfWindow) d v (λ part.
    done (part_shown d v n s part (place to.top to.left)))) order.2 in
    let to : Area = target.0 in
    let source = passed (rectangle (from (start pr) to.rows s.window.area.rows) (from (start pc) to.cols s.window.area.cols) OutOfWindow) d after v new
    (λ (part : Area). done (part_shown d v n s part (place to.top to.left))) target.2 in
    let part : Area = source.0 in
    let ends = in_order_last (start sr) bottom (start sc) right order.1 in
    let to_is = rectangle_ok (between (start sr) (pos bottom) d.rows) (between (start sc) (pos right) d.cols) OutOfScreen to target.1 in
    let part_is = rectangle_ok (from (start pr) to.rows s.window.area.rows) (from (start pc) to.cols s.window.area.cols) OutOfWindow part source.1 in
    let rows = between_some (nat_lt bottom d.rows) (start sr) bottom (record { at = to.top; size = to.rows }) to_is.0 in
    let cols = between_some (nat_lt right d.cols) (start sc) right (record { at = to.left; size = to.cols }) to_is.1 in
    let lines = from_some (nat_le (start pr + to.rows) s.window.area.rows) (start pr) to.rows (record { at = part.top; size = part.rows }) part_is.0 in
    let columns = from_some (nat_le (start pc + to.cols) s.window.area.cols) (start pc) to.cols (record { at = part.left; size = part.cols }) part_is.1 in
    let found : slot_of d n ≡ Ok s = is_pad d (slot_of d n) s pad.1 in
    let placed : IsPlaced d n s = desk.placed n s (found_there d n s found) in
    rw (found)
    (cells_shown d v new s to part (start pr) (start pc) (start sr) (start sc) bottom right placed.canvas.fits (le_tested (start pr + to.rows) s.window.area.rows lines.0) (le_tested (start pc + to.cols) s.window.area.cols columns.0) (sym (ap (λ (x : Refresh). x.1.grid) source.2)) rows cols lines.1 columns.1 ends.0 ends.1)
