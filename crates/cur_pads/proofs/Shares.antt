-- Parts of windows, and the cells that they show.
use Rattle.std.proofs.Common.{◌≡◌, ℕ, ◌+◌, ◌-◌, ◌<◌, ◌||◌, ◌==◌, nat_lt, nat_le, List, [], Bool, true, false, Option, Some, None, Result, Ok, Err, ℤ, pos, negsuc, ◌-ℤ◌, length, get_or, drop, set, refl, sym, ap, ◌∙◌, subst, arith, if◌then◌else◌}
use Rattle.std.proofs.lemmas.Bool.Decides.{nat_tests}
use Rattle.std.proofs.lemmas.Int.{ints}
use Rattle.std.proofs.lemmas.List.{get_or-set_same, get_or-set_other, get_or-take, get_or-drop}
use Rattle.grids.specs.declared.areas.Area.{Area}
use Rattle.cur_drawing.specs.declared.refusals.Refusal.{Refusal}
use Rattle.cur_drawing.specs.declared.refusals.Refusal.TheVariants.{Full, BadRegion, OutOfWindow}
use Rattle.cur_drawing.specs.declared.windows.Window.{Window}
use Rattle.cur_drawing.specs.Cells.{Content, space}
use Rattle.cur_drawing.specs.Grids.{Grid, Fits, cell_at, line_at}
use Rattle.cur_drawing.specs.Windows.{fresh}
use Rattle.cur_drawing.specs.declared.spans.Span.{Span}
use Rattle.cur_screens.specs.declared.slots.Origin.{Origin}
use Rattle.cur_screens.specs.declared.slots.Slot.{Slot}
use Rattle.cur_windows.specs.Desks.{State, DeskStep, IsDesk, IsPlaced, after, grid_at, window_at, slot_of, cell}
use Rattle.cur_windows.specs.Laws.{IsSubwindowOf}
use Rattle.cur_windows.specs.Creations.{in_range, free, inside, subwindow_added, subwindow_at, window_only, derwin, subwin, corner, root_added}
use Rattle.cur_drawing.specs.Spans.{area_within, span_within, rectangle, is_negative}
use Rattle.cur_windows.specs.Views.{window_cells}
use Rattle.cur_windows.proofs.Closures.{some_inj}
use Rattle.cur_windows.proofs.Additions.{no_some}
use Rattle.cur_windows.proofs.ViewFacts.{line_seen, rows_seen}

pub part_cell : (d : State) (s t : Slot) (y x i j : ℕ) → IsSubwindowOf s t y x → cell d t i j ≡ cell d s (y + i) (x + j)
part_cell d s t y x i j is =
    let row : t.window.area.top + i ≡ s.window.area.top + (y + i) = omega (arith, is.top) in
    let col : t.window.area.left + j ≡ s.window.area.left + (x + j) = omega (arith, is.left) in
    ap (λ (k : ℕ). cell_at (grid_at d k) (t.window.area.top + i) (t.window.area.left + j)) is.root
    ∙ ap (λ (k : ℕ). cell_at (grid_at d s.root) k (t.window.area.left + j)) row
    ∙ ap (λ (k : ℕ). cell_at (grid_at d s.root) (s.window.area.top + (y + i)) k) col

pub after_good : {A : Type 0} (d : State) (r : Result A Refusal) (next : A → DeskStep) (P : DeskStep → Type 0) → (after r d next).1 ≡ Ok tt → ((a : A) → r ≡ Ok a → (next a).1 ≡ Ok tt → P (next a)) → P (after r d next)
after_good d (Ok a) next P h p = p a refl h
after_good d (Err e) next P h p = absurd cc

pub ok_inj : (s t : Slot) (r : Result Slot Refusal) → r ≡ Ok s → r ≡ Ok t → s ≡ t
ok_inj s t r e h = cc

stretch_inj : (s t : Span) → Some s ≡ Some t → s ≡ t
stretch_inj s t e = cc

area_inj : (s t : Area) → (let r : Result Area Refusal = Ok s in r ≡ Ok t) → s ≡ t
area_inj s t e = cc

-- the lines or columns begin at the given place
choose_at : (b c e : Bool) (u w v : Span) (k : ℕ) → u.at ≡ k → w.at ≡ k → (if b then (if c then Some u else if e then Some w else None) else None) ≡ Some v → v.at ≡ k
choose_at true true e u w v k one two h = ap (λ (s : Span). s.at) (sym (stretch_inj u v h)) ∙ one
choose_at true false true u w v k one two h = ap (λ (s : Span). s.at) (sym (stretch_inj w v h)) ∙ two
choose_at true false false u w v k one two h = absurd cc
choose_at false c e u w v k one two h = absurd cc

span_at : (n : ℤ) (y limit : ℕ) (v : Span) → span_within n (pos y) limit ≡ Some v → v.at ≡ y
span_at (pos n) y limit v h = choose_at (nat_lt y limit) (n == 0) (nat_le n (limit - y)) (record { at = y; size = limit - y }) (record { at = y; size = n }) v y refl refl h
span_at (negsuc n) y limit v h = absurd cc

crossed_at : (v h : Option Span) (o : Refusal) (a : Area) (y x : ℕ) → ((t : Span) → v ≡ Some t → t.at ≡ y) → ((t : Span) → h ≡ Some t → t.at ≡ x) → rectangle v h o ≡ Ok a → (a.top ≡ y) × (a.left ≡ x)
crossed_at (Some v) (Some h) o a y x one two e =
    let made : Area = record { top = v.at; left = h.at; rows = v.size; cols = h.size } in
    let same : made ≡ a = area_inj made a e in
    (ap (λ (b : Area). b.top) (sym same) ∙ one v refl, ap (λ (b : Area). b.left) (sym same) ∙ two h refl)
crossed_at (Some v) None o a y x one two e = absurd cc
crossed_at None h o a y x one two e = absurd cc

sized_at : (b : Bool) (r : Result Area Refusal) (a : Area) → (if b then Err BadRegion else r) ≡ Ok a → r ≡ Ok a
sized_at true r a h = absurd cc
sized_at false r a h = h

area_at : (height width : ℕ) (lines cols : ℤ) (y x : ℕ) (o : Refusal) (a : Area) → area_within height width lines cols (pos y) (pos x) o ≡ Ok a → (a.top ≡ y) × (a.left ≡ x)
area_at height width lines cols y x o a h =
    crossed_at (span_within lines (pos y) height) (span_within cols (pos x) width) o a y x (λ t. span_at lines y height t) (λ t. span_at cols x width t)
    (sized_at (is_negative lines || is_negative cols) (rectangle (span_within lines (pos y) height) (span_within cols (pos x) width) o) a h)

room_below : (b : Bool) (r : Result (Unit {0}) Refusal) (u : Unit {0}) → (if b then Err Full else r) ≡ Ok u → b ≡ false
room_below true r u h = absurd cc
room_below false r u h = refl

low_number : (n : ℕ) → nat_lt 63 n ≡ false → n < 64
low_number n e = grind (arith, nat_tests)

free_few : (d : State) (n : ℕ) (u : Unit {0}) → free d n ≡ Ok u → n < 64
free_few d n u h = low_number n (room_below (nat_lt 63 n) _ u h)

made_part : (d : State) (n w : ℕ) (s : Slot) (lines cols : ℤ) (y x : ℕ) → length d.windows ≡ 64 → n < 64 → (subwindow_at d n w s lines cols (pos y) (pos x)).1 ≡ Ok tt →
    (t : Slot) → window_at (subwindow_at d n w s lines cols (pos y) (pos x)).0 n ≡ Some t → IsSubwindowOf s t y x
made_part d n w s lines cols y x len lt ok =
    after_good d (area_within s.window.area.rows s.window.area.cols lines cols (pos y) (pos x) OutOfWindow) (λ a. (subwindow_added d n w s a, Ok tt))
    (λ z. (t : Slot) → window_at z.0 n ≡ Some t → IsSubwindowOf s t y x) ok
    (λ a found done t at. (let new : Slot = record { root = s.root; parent = Some w; window = fresh (inside s.window.area a) } in
    let read : get_or (set d.windows n (Some new)) n None ≡ Some new = get_or-set_same d.windows n (Some new) None (omega arith) in
    let place = area_at s.window.area.rows s.window.area.cols lines cols y x OutOfWindow a found in
    subst (λ (v : Slot). IsSubwindowOf s v y x) (some_inj new t (sym read ∙ at))
    (record { root = refl; top = ap (λ (k : ℕ). s.window.area.top + k) place.0; left = ap (λ (k : ℕ). s.window.area.left + k) place.1 })))

pub derwin_part : (d : State) (n w : ℕ) (lines cols : ℤ) (y x : ℕ) (s t : Slot) → IsDesk d → (derwin d n w lines cols (pos y) (pos x)).1 ≡ Ok tt → slot_of d w ≡ Ok s →
    window_at (derwin d n w lines cols (pos y) (pos x)).0 n ≡ Some t → IsSubwindowOf s t y x
derwin_part d n w lines cols y x s t is ok found at =
    let P : DeskStep → Type 0 = λ z. (t : Slot) → window_at z.0 n ≡ Some t → IsSubwindowOf s t y x in
    let last : Slot → DeskStep = λ s. subwindow_at d n w s lines cols (pos y) (pos x) in
    let third : Slot → DeskStep = λ s. after (window_only d s) d (λ u. last s) in
    let second : DeskStep = after (slot_of d w) d third in
    after_good d (in_range n w) (λ u. after (free d n) d (λ u. second)) P ok
    (λ u1 e1 ok1. after_good d (free d n) (λ u. second) P ok1
    (λ u2 e2 ok2. after_good d (slot_of d w) third P ok2
    (λ s2 e3 ok3. after_good d (window_only d s2) (λ u. last s2) P ok3
    (λ u4 e4 ok4 v here. subst (λ (p : Slot). IsSubwindowOf p v y x) (ok_inj s2 s (slot_of d w) e3 found)
    (made_part d n w s2 lines cols y x is.windows (free_few d n u2 e2) ok4 v here))))) t at

counted : (c y : ℕ) → pos (c + y) -ℤ pos c ≡ pos y
counted c y = omega (arith, ints)

pub subwin_part : (d : State) (n w : ℕ) (lines cols : ℤ) (y x : ℕ) (s t : Slot) → IsDesk d → (subwin d n w lines cols (pos ((corner d s).0 + y)) (pos ((corner d s).1 + x))).1 ≡ Ok tt → slot_of d w ≡ Ok s →
    window_at (subwin d n w lines cols (pos ((corner d s).0 + y)) (pos ((corner d s).1 + x))).0 n ≡ Some t → IsSubwindowOf s t y x
subwin_part d n w lines cols y x s t is ok found at =
    let P : DeskStep → Type 0 = λ z. (t : Slot) → window_at z.0 n ≡ Some t → IsSubwindowOf s t y x in
    let row : ℕ = (corner d s).0 in let col : ℕ = (corner d s).1 in
    let last : Slot → DeskStep = λ v. subwindow_at d n w v lines cols (pos (row + y) -ℤ pos (corner d v).0) (pos (col + x) -ℤ pos (corner d v).1) in
    let third : Slot → DeskStep = λ s. after (window_only d s) d (λ u. last s) in
    let second : DeskStep = after (slot_of d w) d third in
    let here : last s ≡ subwindow_at d n w s lines cols (pos y) (pos x) =
    ap (λ (k : ℤ). subwindow_at d n w s lines cols k (pos (col + x) -ℤ pos col)) (counted row y) ∙ ap (λ (k : ℤ). subwindow_at d n w s lines cols (pos y) k) (counted col x) in
    after_good d (in_range n w) (λ u. after (free d n) d (λ u. second)) P ok
    (λ u1 e1 ok1. after_good d (free d n) (λ u. second) P ok1
    (λ u2 e2 ok2. after_good d (slot_of d w) third P ok2
    (λ s2 e3 ok3. after_good d (window_only d s2) (λ u. last s2) P ok3
    (λ u4 e4 ok4. (let all : last s2 ≡ subwindow_at d n w s lines cols (pos y) (pos x) = ap last (ok_inj s2 s (slot_of d w) e3 found) ∙ here in
    subst P (sym all) (made_part d n w s lines cols y x is.windows (free_few d n u2 e2) (ap (λ (z : DeskStep). z.1) (sym all) ∙ ok4))))))) t at

-- the view of a window shows at each place its cell there
pub cell_seen : (a : Area) (g : Grid) (y x : ℕ) → Fits a g → y < a.rows → x < a.cols → cell_at (window_cells a g) y x ≡ cell_at g (a.top + y) (a.left + x)
cell_seen a g y x fits lt lt2 =
    ap (λ (l : List Content). get_or l x space) (sym (line_seen a g y fits (omega (arith, rows_seen a g fits))))
    ∙ get_or-take a.cols (drop a.left (line_at g (a.top + y))) x space lt2 ∙ get_or-drop a.left (line_at g (a.top + y)) x space

-- a new window has a grid of its own
pub settled_apart : (d : State) (n m : ℕ) (g : Grid) (o : Origin) (w : Window) (t : Slot) (y x : ℕ) → IsDesk d → window_at d n ≡ None → window_at d m ≡ Some t → cell (root_added d n g o w) t y x ≡ cell d t y x
settled_apart d n m g o w t y x is none there =
    let was : IsPlaced d m t = is.placed m t there in
    ap (λ (h : Grid). cell_at h (t.window.area.top + y) (t.window.area.left + x))
    (get_or-set_other d.grids n t.root g [] (λ eq. no_some (window_at d t.root) (ap (window_at d) eq ∙ none) was.made ⊥))
