-- A copy changes no cell outside its target.
use Rattle.std.proofs.Common.{◌≡◌, ℕ, ◌+◌, ◌-◌, ◌<◌, ◌≤◌, nat_lt, nat_le, max, min, Bool, true, false, Option, Some, None, Result, Ok, Err, ℤ, pos, negsuc, refl, subst, arith, if◌then◌else◌}
use Rattle.std.proofs.lemmas.Bool.Decides.{nat_tests}
use Rattle.grids.specs.declared.areas.Area.{Area}
use Rattle.grids.specs.declared.areas.Place.{Place}
use Rattle.cur_drawing.specs.declared.refusals.Refusal.{Refusal}
use Rattle.cur_drawing.specs.declared.refusals.Refusal.TheVariants.{OutOfWindow}
use Rattle.cur_drawing.specs.Cells.{unless_space}
use Rattle.cur_drawing.specs.Grids.{Grid, cell_at, is_in, overlaid, combined, taken}
use Rattle.cur_drawing.proofs.DrawingFacts.{cell_at-drawn_in_off}
use Rattle.cur_drawing.specs.declared.spans.CopySpan.{CopySpan}
use Rattle.cur_screens.specs.declared.slots.Slot.{Slot}
use Rattle.cur_drawing.specs.Spans.{matched, common, copy_span_at, copy_span_between}
use Rattle.cur_windows.specs.Copies.{target_area, source_place, spans_copied, copied_or, common_part, common_copied, copywin, in_order}
use Rattle.cur_windows.specs.Desks.{State, DeskStep, IsDesk, IsPlaced, after, grid_at, window_at, slot_of}
use Rattle.cur_windows.specs.Laws.{OnlyWithin}
use Rattle.cur_windows.specs.Creations.{in_range, window_only}
use Rattle.cur_drawing.specs.Spans.{start_within}
use Rattle.cur_windows.specs.Refreshes.{area_on_screen}
use Rattle.cur_windows.proofs.Supports.{found_there}
use Rattle.cur_pads.proofs.Shares.{ok_inj}
use Rattle.cur_pads.proofs.Within.{grid_within}

cell_at-overlaid_off : (a : Area) (from : Place) (skip : Bool) (source g : Grid) (i j : ℕ) → is_in a i j ≡ false → cell_at (overlaid a from skip source g) i j ≡ cell_at g i j
cell_at-overlaid_off a from true source g i j off = cell_at-drawn_in_off a (combined a from unless_space source) g i j off
cell_at-overlaid_off a from false source g i j off = cell_at-drawn_in_off a (taken a from source) g i j off

target_off : (t : Slot) (v h : CopySpan) (i j : ℕ) → v.to + v.count ≤ t.window.area.rows → h.to + h.count ≤ t.window.area.cols → is_in t.window.area i j ≡ false → is_in (target_area t v h) i j ≡ false
target_off t v h i j rows cols off = grind (arith, nat_tests)

only_same : (d : State) (m : ℕ) (t : Slot) → OnlyWithin d d m t
only_same d m t = record { cells = λ k i j off. refl; windows = λ k other. refl }

spans_within : (d : State) (s t : Slot) (m : ℕ) (v h : CopySpan) (skip : Bool) → IsDesk d → window_at d m ≡ Some t → v.to + v.count ≤ t.window.area.rows → h.to + h.count ≤ t.window.area.cols →
    OnlyWithin d (spans_copied d s t v h skip) m t
spans_within d s t m v h skip is there rows cols =
    let old : IsPlaced d m t = is.placed m t there in
    let from = source_place s v h in
    let g : Grid = overlaid (target_area t v h) from skip (grid_at d s.root) (grid_at d t.root) in record {
      cells = λ k i j off. grid_within d t g k i j (omega (arith, is.grids, old.root))
          (λ i j out. cell_at-overlaid_off (target_area t v h) from skip (grid_at d s.root) (grid_at d t.root) i j (target_off t v h i j rows cols out)) off;
      windows = λ k other. refl;
    }

copied_within : (o : Result (Unit {0}) Refusal) (d : State) (s t : Slot) (m : ℕ) (skip : Bool) (r c : Option CopySpan) → IsDesk d → window_at d m ≡ Some t →
    ((v : CopySpan) → r ≡ Some v → v.to + v.count ≤ t.window.area.rows) → ((h : CopySpan) → c ≡ Some h → h.to + h.count ≤ t.window.area.cols) → OnlyWithin d (copied_or o d s t skip r c).0 m t
copied_within o d s t m skip (Some v) (Some h) is there rows cols = spans_within d s t m v h skip is there (rows v refl) (cols h refl)
copied_within o d s t m skip (Some v) None is there rows cols = only_same d m t
copied_within o d s t m skip None c is there rows cols = only_same d m t

within_after : {A : Type 0} (d : State) (m : ℕ) (t : Slot) (r : Result A Refusal) (next : A → DeskStep) → ((a : A) → r ≡ Ok a → OnlyWithin d (next a).0 m t) → OnlyWithin d (after r d next).0 m t
within_after d m t (Ok a) next p = p a refl
within_after d m t (Err e) next p = only_same d m t

-- ---- the lines and columns are in the target
pub copy_span_inj : (s t : CopySpan) → Some s ≡ Some t → s ≡ t
copy_span_inj s t e = cc

if_copy_span : (b : Bool) (s v : CopySpan) → (if b then Some s else None) ≡ Some v → (b ≡ true) × (s ≡ v)
if_copy_span true s v h = (refl, copy_span_inj s v h)
if_copy_span false s v h = absurd cc

num_inj : (m n : ℕ) → Some m ≡ Some n → m ≡ n
num_inj m n e = cc

pub if_number : (b : Bool) (a k : ℕ) → (if b then Some a else None) ≡ Some k → (b ≡ true) × (a ≡ k)
if_number true a k h = (refl, num_inj a k h)
if_number false a k h = absurd cc

pub le_tested : (m n : ℕ) → nat_le m n ≡ true → m ≤ n
le_tested m n e = grind (arith, nat_tests)

pub lt_tested : (m n : ℕ) → nat_lt m n ≡ true → m < n
lt_tested m n e = grind (arith, nat_tests)

start_below : (z : ℤ) (m k : ℕ) → start_within z 1 m ≡ Some k → k + 1 ≤ m
start_below (pos a) m k h = let e = if_number (nat_le (a + 1) m) a k h in let le = le_tested (a + 1) m e.0 in let same = e.1 in omega arith
start_below (negsuc a) m k h = absurd cc

copy_span_at_fits : (to count m : ℕ) (o : Option ℕ) (v : CopySpan) → to + count ≤ m → copy_span_at to count o ≡ Some v → v.to + v.count ≤ m
copy_span_at_fits to count m (Some from) v le h =
    let made : CopySpan = record { from = from; to = to; count = count } in
    subst (λ (s : CopySpan). s.to + s.count ≤ m) (copy_span_inj made v h) le
copy_span_at_fits to count m None v le h = absurd cc

between_fits : (from : ℤ) (n m : ℕ) (a b : Option ℕ) (v : CopySpan) → ((k : ℕ) → a ≡ Some k → k + 1 ≤ m) → ((k : ℕ) → b ≡ Some k → k + 1 ≤ m) → copy_span_between from n a b ≡ Some v → v.to + v.count ≤ m
between_fits from n m (Some to) (Some end) v one two h =
    let first : to + 1 ≤ m = one to refl in let last : end + 1 ≤ m = two end refl in
    copy_span_at_fits to (end - to + 1) m (start_within from (end - to + 1) n) v (omega arith) h
between_fits from n m (Some to) None v one two h = absurd cc
between_fits from n m None b v one two h = absurd cc

matched_fits : (from to end : ℤ) (n m : ℕ) (v : CopySpan) → matched from to end n m ≡ Some v → v.to + v.count ≤ m
matched_fits from to end n m v h = between_fits from n m (start_within to 1 m) (start_within end 1 m) v (λ k. start_below to m k) (λ k. start_below end m k) h

common_fits : (at n to m : ℕ) (v : CopySpan) → common at n to m ≡ Some v → v.to + v.count ≤ m
common_fits at n to m v h =
    let made : CopySpan = record { from = max at to - at; to = max at to - to; count = min (at + n) (to + m) - max at to } in
    let e = if_copy_span (nat_lt (max at to) (min (at + n) (to + m))) made v h in
    let lt = lt_tested (max at to) (min (at + n) (to + m)) e.0 in
    subst (λ (s : CopySpan). s.to + s.count ≤ m) e.1 (omega arith)

pub common_part_within : (d : State) (skip : Bool) (n m : ℕ) (t : Slot) → IsDesk d → slot_of d m ≡ Ok t → OnlyWithin d (common_part skip d n m).0 m t
common_part_within d skip n m t is found =
    let a = area_on_screen d in
    within_after d m t (in_range n m) _ (λ u1 e1. within_after d m t (slot_of d n) _ (λ s e2. within_after d m t (slot_of d m) (λ t. after (window_only d s) d (λ u. after (window_only d t) d (λ u. common_copied d s t skip)))
    (λ t2 e3. subst (λ (v : Slot). OnlyWithin d (after (window_only d s) d (λ u. after (window_only d v) d (λ u. common_copied d s v skip))).0 m t) (ok_inj t t2 (slot_of d m) found e3)
    (within_after d m t (window_only d s) _ (λ u4 e4. within_after d m t (window_only d t) _ (λ u5 e5.
    copied_within (Ok tt) d s t m skip (common (a s).top (a s).rows (a t).top (a t).rows) (common (a s).left (a s).cols (a t).left (a t).cols) is (found_there d m t found)
    (λ v. common_fits (a s).top (a s).rows (a t).top (a t).rows v) (λ v. common_fits (a s).left (a s).cols (a t).left (a t).cols v)))))))

pub copywin_within : (d : State) (n m : ℕ) (sr sc dr dc er ec : ℤ) (skip : Bool) (t : Slot) → IsDesk d → slot_of d m ≡ Ok t → OnlyWithin d (copywin d n m sr sc dr dc er ec skip).0 m t
copywin_within d n m sr sc dr dc er ec skip t is found =
    let last : Slot → Slot → DeskStep = λ s t. copied_or (Err OutOfWindow) d s t skip (matched sr dr er s.window.area.rows t.window.area.rows) (matched sc dc ec s.window.area.cols t.window.area.cols) in
    within_after d m t (in_range n m) _ (λ u1 e1. within_after d m t (slot_of d n) _ (λ s e2. within_after d m t (slot_of d m) (λ t. after (in_order dr er dc ec) d (λ u. last s t))
    (λ t2 e3. subst (λ (v : Slot). OnlyWithin d (after (in_order dr er dc ec) d (λ u. last s v)).0 m t) (ok_inj t t2 (slot_of d m) found e3)
    (within_after d m t (in_order dr er dc ec) (λ u. last s t) (λ u4 e4.
    copied_within (Err OutOfWindow) d s t m skip (matched sr dr er s.window.area.rows t.window.area.rows) (matched sc dc ec s.window.area.cols t.window.area.cols) is (found_there d m t found)
    (λ v. matched_fits sr dr er s.window.area.rows t.window.area.rows v) (λ v. matched_fits sc dc ec s.window.area.cols t.window.area.cols v))))))
