-- Copies to the virtual screen, to another window and to a new one, place by place.
use Rattle.std.proofs.Common.{◌≡◌, ◌≢◌, ℕ, ◌+◌, ◌-◌, ◌<◌, ◌≤◌, ◌&&◌, ◌||◌, nat_lt, nat_le, max, min, [], Bool, true, false, Option, Some, None, Result, Ok, Err, pos, length, set, refl, sym, ap, ◌∙◌, subst, inl, arith, if◌then◌else◌}
use Rattle.std.proofs.lemmas.Bool.Decides.{nat_tests}
use Rattle.std.proofs.lemmas.List.{get_or-set_same, get_or-set_other}
use Rattle.grids.specs.declared.areas.Area.{Area}
use Rattle.grids.specs.declared.areas.Place.{Place}
use Rattle.cur_drawing.specs.declared.refusals.Refusal.{Refusal}
use Rattle.cur_drawing.specs.declared.refusals.Refusal.TheVariants.{Full, NumberUsed, BadRegion, OutOfWindow}
use Rattle.cur_drawing.specs.Cells.{Content, copied_cell}
use Rattle.cur_drawing.specs.Grids.{Grid, Fits, is_in, line_at, cell_at, overlaid, blank}
use Rattle.cur_drawing.specs.Calls.{place}
use Rattle.cur_drawing.specs.Spans.{start_within}
use Rattle.cur_drawing.proofs.ByPlace.{copied_by_place, overlaid_by_place}
use Rattle.cur_drawing.specs.declared.spans.CopySpan.{CopySpan}
use Rattle.cur_screens.specs.declared.slots.Slot.{Slot}
use Rattle.cur_drawing.specs.Spans.{matched, copy_span_at, copy_span_between}
use Rattle.cur_windows.specs.Copies.{target_area, source_place, spans_copied, copied_or, common_part, common_copied, copywin, in_order}
use Rattle.cur_windows.specs.Desks.{State, DeskStep, IsDesk, IsPlaced, after, grid_at, window_at, slot_of, cell}
use Rattle.cur_screens.specs.Slots.{whole_area}
use Rattle.cur_windows.specs.Laws.{OnlyWithin}
use Rattle.cur_windows.specs.Creations.{in_range, free, is_some_slot, window_only, corner, dupwin, copy_grid, copy_origin, root_added}
use Rattle.cur_pads.specs.WindowPlaces.{IsWindowShown, IsCopied, IsOverlaid, IsCopyOf}
use Rattle.cur_windows.specs.Laws.{is_between}
use Rattle.cur_screens.specs.VirtualScreen.{Screen, shown}
use Rattle.cur_windows.specs.Refreshes.{Refresh, if_shown, noutrefresh, area_on_screen, cursor_on_screen}
use Rattle.cur_windows.proofs.Additions.{blank_line, no_some}
use Rattle.cur_windows.proofs.Supports.{found_there}
use Rattle.cur_windows.proofs.Closures.{some_inj}
use Rattle.cur_pads.proofs.Copied.{copy_span_inj, le_tested, lt_tested}
use Rattle.cur_pads.proofs.Shares.{after_good, ok_inj}
use Rattle.cur_pads.proofs.Within.{apart_kept}

-- ---- noutrefresh
shown_good : {A : Type 0} (r : Result A Refusal) (d : State) (v : Screen) (next : A → Refresh) (P : Refresh → Type 0) → (if_shown r d v next).2 ≡ Ok tt → ((a : A) → P (next a)) → P (if_shown r d v next)
shown_good (Ok a) d v next P h p = p a
shown_good (Err e) d v next P h p = absurd cc

pub window_shown : (d : State) (v : Screen) (n : ℕ) (s : Slot) → IsDesk d → slot_of d n ≡ Ok s → (noutrefresh d v n).2 ≡ Ok tt → IsWindowShown d s v (noutrefresh d v n).1
window_shown d v n s is found ok =
    let old : IsPlaced d n s = is.placed n s (found_there d n s found) in
    let next : Slot → Refresh = λ s. if_shown (window_only d s) d v (λ u. (
      record d { windows = set d.windows n (Some (record s { window = record s.window { clears = false } })) },
      shown (area_on_screen d s) (grid_at d s.root) (place s.window.area.top s.window.area.left) (cursor_on_screen d s) s.window.clears v,
      Ok tt,
    )) in
    let same : noutrefresh d v n ≡ next s = ap (λ (r : Result Slot Refusal). if_shown r d v next) found in
    subst (λ (x : Refresh). IsWindowShown d s v x.1) (sym same)
    (shown_good (window_only d s) d v _ (λ x. IsWindowShown d s v x.1) (sym (ap (λ (x : Refresh). x.2) same) ∙ ok)
    (λ u i j near. copied_by_place (area_on_screen d s) (place s.window.area.top s.window.area.left) (grid_at d s.root) v.grid i j old.canvas.fits near))

-- ---- copies between windows
line_near : (g : Grid) (a : Area) (y x : ℕ) → Fits a g → y < a.rows → x < a.cols → a.left + x < length (line_at g (a.top + y))
line_near g a y x fits lt lt2 = let rows = fits.rows in let cols = fits.cols (a.top + y) (omega arith) in omega arith

target_is_in : (t : Slot) (v h : CopySpan) (y x : ℕ) → is_in (target_area t v h) (t.window.area.top + y) (t.window.area.left + x)
    ≡ ((nat_le v.to y && nat_lt y (v.to + v.count)) && (nat_le h.to x && nat_lt x (h.to + h.count)))
target_is_in t v h y x = grind (arith, nat_tests)

source_fits : (s : Slot) (g : Grid) (v h : CopySpan) (a : Area) → Fits s.window.area g → v.from + v.count ≤ s.window.area.rows → h.from + h.count ≤ s.window.area.cols → a.rows ≡ v.count → a.cols ≡ h.count →
    Fits (record a { top = s.window.area.top + v.from; left = s.window.area.left + h.from }) g
source_fits s g v h a fits rows cols e f = record {
  rows = omega (arith, fits.rows, e);
  cols = λ i lt. (let line = fits.cols i lt in omega (arith, f));
}

-- the target after lines and columns were copied to it
spans_by_place : (d : State) (s t : Slot) (v h : CopySpan) (skip : Bool) (y x : ℕ) → t.root < length d.grids → Fits s.window.area (grid_at d s.root) → Fits t.window.area (grid_at d t.root) →
    v.from + v.count ≤ s.window.area.rows → h.from + h.count ≤ s.window.area.cols → y < t.window.area.rows → x < t.window.area.cols →
    cell (spans_copied d s t v h skip) t y x ≡
    (if (nat_le v.to y && nat_lt y (v.to + v.count)) && (nat_le h.to x && nat_lt x (h.to + h.count)) then copied_cell skip (cell d t y x) (cell d s (v.from + (y - v.to)) (h.from + (x - h.to))) else cell d t y x)
spans_by_place d s t v h skip y x root source target rows cols lt lt2 =
    let a : Area = target_area t v h in let from : Place = source_place s v h in
    let g : Grid = grid_at d s.root in let was : Grid = grid_at d t.root in
    let i : ℕ = t.window.area.top + y in let j : ℕ = t.window.area.left + x in
    let row : s.window.area.top + v.from + (i - (t.window.area.top + v.to)) ≡ s.window.area.top + (v.from + (y - v.to)) = omega arith in
    let col : s.window.area.left + h.from + (j - (t.window.area.left + h.to)) ≡ s.window.area.left + (h.from + (x - h.to)) = omega arith in
    ap (λ (k : Grid). cell_at k i j) (get_or-set_same d.grids t.root (overlaid a from skip g was) [] root)
    ∙ overlaid_by_place a from skip g was i j (source_fits s g v h a source rows cols refl refl) (line_near was t.window.area y x target lt lt2)
    ∙ ap (λ (b : Bool). if b then copied_cell skip (cell_at was i j) (cell_at g (from.row + (i - a.top)) (from.col + (j - a.left))) else cell_at was i j) (target_is_in t v h y x)
    ∙ ap (λ (k : ℕ). if (nat_le v.to y && nat_lt y (v.to + v.count)) && (nat_le h.to x && nat_lt x (h.to + h.count)) then copied_cell skip (cell_at was i j) (cell_at g k (from.col + (j - a.left))) else cell_at was i j) row
    ∙ ap (λ (k : ℕ). if (nat_le v.to y && nat_lt y (v.to + v.count)) && (nat_le h.to x && nat_lt x (h.to + h.count)) then copied_cell skip (cell_at was i j) (cell_at g (s.window.area.top + (v.from + (y - v.to))) k) else cell_at was i j) col

-- ---- copywin
both_ends : (a b : Bool) (sr dr er n : ℕ) (v : CopySpan) → copy_span_between (pos sr) n (if a then Some dr else None) (if b then Some er else None) ≡ Some v → copy_span_at dr (er - dr + 1) (start_within (pos sr) (er - dr + 1) n) ≡ Some v
both_ends true true sr dr er n v h = h
both_ends true false sr dr er n v h = absurd cc
both_ends false b sr dr er n v h = absurd cc

span_found : (c : Bool) (sr dr count : ℕ) (v : CopySpan) → copy_span_at dr count (if c then Some sr else None) ≡ Some v → (c ≡ true) × (record { from = sr; to = dr; count = count } ≡ v)
span_found true sr dr count v h = (refl, copy_span_inj (record { from = sr; to = dr; count = count }) v h)
span_found false sr dr count v h = absurd cc

matched_is : (sr dr er n m : ℕ) (v : CopySpan) → matched (pos sr) (pos dr) (pos er) n m ≡ Some v → (sr + (er - dr + 1) ≤ n) × (record { from = sr; to = dr; count = er - dr + 1 } ≡ v)
matched_is sr dr er n m v h =
    let at : copy_span_at dr (er - dr + 1) (start_within (pos sr) (er - dr + 1) n) ≡ Some v = both_ends (nat_le (dr + 1) m) (nat_le (er + 1) m) sr dr er n v h in
    let e = span_found (nat_le (sr + (er - dr + 1)) n) sr dr (er - dr + 1) v at in
    (le_tested (sr + (er - dr + 1)) n e.0, e.1)

copied_some : (o : Refusal) (d : State) (s t : Slot) (skip : Bool) (r c : Option CopySpan) (P : DeskStep → Type 0) → (copied_or (Err o) d s t skip r c).1 ≡ Ok tt →
    ((v h : CopySpan) → r ≡ Some v → c ≡ Some h → P (spans_copied d s t v h skip, Ok tt)) → P (copied_or (Err o) d s t skip r c)
copied_some o d s t skip (Some v) (Some h) P ok p = p v h refl refl
copied_some o d s t skip (Some v) None P ok p = absurd cc
copied_some o d s t skip None c P ok p = absurd cc

passed_test : (b : Bool) (e : Refusal) (u : Unit {0}) → (if b then Err e else Ok tt) ≡ Ok u → b ≡ false
passed_test true e u h = absurd cc
passed_test false e u h = refl

ends_in_order : (dr dc er ec : ℕ) (u : Unit {0}) → in_order (pos dr) (pos er) (pos dc) (pos ec) ≡ Ok u → (dr ≤ er) × (dc ≤ ec)
ends_in_order dr dc er ec u h =
    let kept : (nat_lt er dr || nat_lt ec dc) ≡ false = passed_test (nat_lt er dr || nat_lt ec dc) BadRegion u h in
    (grind (arith, nat_tests), grind (arith, nat_tests))

-- there are as many places from a first to a last one as were copied
same_run : (first last i : ℕ) → first ≤ last → (nat_le first i && nat_lt i (first + (last - first + 1))) ≡ is_between first last i
same_run first last i h = grind (arith, nat_tests)

copywin_cells : (d : State) (s t : Slot) (skip : Bool) (sr sc dr dc er ec : ℕ) (v h : CopySpan) → t.root < length d.grids → Fits s.window.area (grid_at d s.root) → Fits t.window.area (grid_at d t.root) → dr ≤ er → dc ≤ ec →
    matched (pos sr) (pos dr) (pos er) s.window.area.rows t.window.area.rows ≡ Some v → matched (pos sc) (pos dc) (pos ec) s.window.area.cols t.window.area.cols ≡ Some h →
    IsCopied d (spans_copied d s t v h skip) s t skip sr sc dr dc er ec
copywin_cells d s t skip sr sc dr dc er ec v h root source target high wide one two y x lt lt2 =
    let r = matched_is sr dr er s.window.area.rows t.window.area.rows v one in
    let c = matched_is sc dc ec s.window.area.cols t.window.area.cols h two in
    let rows : CopySpan = record { from = sr; to = dr; count = er - dr + 1 } in
    let cols : CopySpan = record { from = sc; to = dc; count = ec - dc + 1 } in
    ap (λ (k : CopySpan). cell (spans_copied d s t k h skip) t y x) (sym r.1)
    ∙ ap (λ (k : CopySpan). cell (spans_copied d s t rows k skip) t y x) (sym c.1)
    ∙ spans_by_place d s t rows cols skip y x root source target r.0 c.0 lt lt2
    ∙ ap (λ (b : Bool). if b && (nat_le dc x && nat_lt x (dc + (ec - dc + 1))) then copied_cell skip (cell d t y x) (cell d s (sr + (y - dr)) (sc + (x - dc))) else cell d t y x) (same_run dr er y high)
    ∙ ap (λ (b : Bool). if is_between dr er y && b then copied_cell skip (cell d t y x) (cell d s (sr + (y - dr)) (sc + (x - dc))) else cell d t y x) (same_run dc ec x wide)

pub copywin_by_place : (d : State) (n m sr sc dr dc er ec : ℕ) (skip : Bool) (s t : Slot) → IsDesk d → slot_of d n ≡ Ok s → slot_of d m ≡ Ok t →
    (copywin d n m (pos sr) (pos sc) (pos dr) (pos dc) (pos er) (pos ec) skip).1 ≡ Ok tt → IsCopied d (copywin d n m (pos sr) (pos sc) (pos dr) (pos dc) (pos er) (pos ec) skip).0 s t skip sr sc dr dc er ec
copywin_by_place d n m sr sc dr dc er ec skip s t is found found2 ok =
    let source : IsPlaced d n s = is.placed n s (found_there d n s found) in
    let target : IsPlaced d m t = is.placed m t (found_there d m t found2) in
    let P : DeskStep → Type 0 = λ z. IsCopied d z.0 s t skip sr sc dr dc er ec in
    let last : Slot → Slot → DeskStep = λ s t. copied_or (Err OutOfWindow) d s t skip (matched (pos sr) (pos dr) (pos er) s.window.area.rows t.window.area.rows) (matched (pos sc) (pos dc) (pos ec) s.window.area.cols t.window.area.cols) in
    let third : Slot → Slot → DeskStep = λ s t. after (in_order (pos dr) (pos er) (pos dc) (pos ec)) d (λ u. last s t) in
    let second : Slot → DeskStep = λ s. after (slot_of d m) d (λ t. third s t) in
    after_good d (in_range n m) (λ u. after (slot_of d n) d second) P ok
    (λ u1 e1 ok1. after_good d (slot_of d n) second P ok1
    (λ s2 e2 ok2. after_good d (slot_of d m) (λ t. third s2 t) P ok2
    (λ t2 e3 ok3. after_good d (in_order (pos dr) (pos er) (pos dc) (pos ec)) (λ u. last s2 t2) P ok3
    (λ u4 e4 ok4. (let order = ends_in_order dr dc er ec u4 e4 in
    let at : last s2 t2 ≡ last s t = ap (λ (q : Slot). last q t2) (ok_inj s2 s (slot_of d n) e2 found) ∙ ap (λ (q : Slot). last s q) (ok_inj t2 t (slot_of d m) e3 found2) in
    subst P (sym at) (copied_some OutOfWindow d s t skip (matched (pos sr) (pos dr) (pos er) s.window.area.rows t.window.area.rows) (matched (pos sc) (pos dc) (pos ec) s.window.area.cols t.window.area.cols) P (sym (ap (λ (z : DeskStep). z.1) at) ∙ ok4)
    (λ v h one two. copywin_cells d s t skip sr sc dr dc er ec v h (omega (arith, is.grids, target.root)) source.canvas.fits target.canvas.fits order.0 order.1 one two)))))))

-- ---- overlay and overwrite
no_common : (at n to m y : ℕ) → nat_lt (max at to) (min (at + n) (to + m)) ≡ false → y < m → (nat_le at (to + y) && nat_lt (to + y) (at + n)) ≡ false
no_common at n to m y none lt = grind (arith, nat_tests)

common_run : (at n to m y : ℕ) → nat_lt (max at to) (min (at + n) (to + m)) ≡ true → y < m →
    (nat_le (max at to - to) y && nat_lt y (max at to - to + (min (at + n) (to + m) - max at to))) ≡ (nat_le at (to + y) && nat_lt (to + y) (at + n))
common_run at n to m y some lt = grind (arith, nat_tests)

common_row : (at n to y : ℕ) → (nat_le at (to + y) && nat_lt (to + y) (at + n)) ≡ true → max at to - at + (y - (max at to - to)) ≡ to + y - at
common_row at n to y on = grind (arith, nat_tests)

-- whether the source has the target's line or column y on the screen
abbrev has : ℕ → ℕ → ℕ → ℕ → Bool
has at n to y = nat_le at (to + y) && nat_lt (to + y) (at + n)

abbrev span_of : ℕ → ℕ → ℕ → ℕ → CopySpan
span_of at n to m = record { from = max at to - at; to = max at to - to; count = min (at + n) (to + m) - max at to }

off_left : (p q : Bool) (x old : Content) → p ≡ false → old ≡ (if p && q then x else old)
off_left p q x old e = rw (e) refl

off_right : (p q : Bool) (x old : Content) → q ≡ false → old ≡ (if p && q then x else old)
off_right true q x old e = rw (e) refl
off_right false q x old e = refl

same_cell : (p q : Bool) (f : ℕ → ℕ → Content) (a b c e : ℕ) (old : Content) → (p ≡ true → a ≡ c) → (q ≡ true → b ≡ e) → (if p && q then f a b else old) ≡ (if p && q then f c e else old)
same_cell true true f a b c e old h k = ap (λ (n : ℕ). f n b) (h refl) ∙ ap (λ (n : ℕ). f c n) (k refl)
same_cell true false f a b c e old h k = refl
same_cell false q f a b c e old h k = refl

overlaid_cells : (d : State) (s t : Slot) (skip : Bool) (ar al br bl : ℕ) (rows cols : Bool) → t.root < length d.grids → Fits s.window.area (grid_at d s.root) → Fits t.window.area (grid_at d t.root) →
    nat_lt (max ar br) (min (ar + s.window.area.rows) (br + t.window.area.rows)) ≡ rows → nat_lt (max al bl) (min (al + s.window.area.cols) (bl + t.window.area.cols)) ≡ cols →
    (y x : ℕ) → y < t.window.area.rows → x < t.window.area.cols →
    cell (copied_or (Ok tt) d s t skip (if rows then Some (span_of ar s.window.area.rows br t.window.area.rows) else None) (if cols then Some (span_of al s.window.area.cols bl t.window.area.cols) else None)).0 t y x ≡
    (if has ar s.window.area.rows br y && has al s.window.area.cols bl x then copied_cell skip (cell d t y x) (cell d s (br + y - ar) (bl + x - al)) else cell d t y x)
overlaid_cells d s t skip ar al br bl true true root source target r c y x lt lt2 =
    let n : ℕ = s.window.area.rows in let m : ℕ = t.window.area.rows in let k : ℕ = s.window.area.cols in let l : ℕ = t.window.area.cols in
    let v : CopySpan = span_of ar n br m in let h : CopySpan = span_of al k bl l in
    let some : max ar br < min (ar + n) (br + m) = lt_tested (max ar br) (min (ar + n) (br + m)) r in
    let some2 : max al bl < min (al + k) (bl + l) = lt_tested (max al bl) (min (al + k) (bl + l)) c in
    spans_by_place d s t v h skip y x root source target (omega arith) (omega arith) lt lt2
    ∙ ap (λ (b : Bool). if b && (nat_le h.to x && nat_lt x (h.to + h.count)) then copied_cell skip (cell d t y x) (cell d s (v.from + (y - v.to)) (h.from + (x - h.to))) else cell d t y x) (common_run ar n br m y r lt)
    ∙ ap (λ (b : Bool). if has ar n br y && b then copied_cell skip (cell d t y x) (cell d s (v.from + (y - v.to)) (h.from + (x - h.to))) else cell d t y x) (common_run al k bl l x c lt2)
    ∙ same_cell (has ar n br y) (has al k bl x) (λ row col. copied_cell skip (cell d t y x) (cell d s row col)) (v.from + (y - v.to)) (h.from + (x - h.to)) (br + y - ar) (bl + x - al) (cell d t y x)
    (common_row ar n br y) (common_row al k bl x)
overlaid_cells d s t skip ar al br bl true false root source target r c y x lt lt2 = off_right (has ar s.window.area.rows br y) (has al s.window.area.cols bl x) _ (cell d t y x) (no_common al s.window.area.cols bl t.window.area.cols x c lt2)
overlaid_cells d s t skip ar al br bl false cols root source target r c y x lt lt2 = off_left (has ar s.window.area.rows br y) (has al s.window.area.cols bl x) _ (cell d t y x) (no_common ar s.window.area.rows br t.window.area.rows y r lt)

pub overlay_by_place : (d : State) (skip : Bool) (n m : ℕ) (s t : Slot) → IsDesk d → slot_of d n ≡ Ok s → slot_of d m ≡ Ok t → (common_part skip d n m).1 ≡ Ok tt → IsOverlaid d (common_part skip d n m).0 s t skip
overlay_by_place d skip n m s t is found found2 ok =
    let source : IsPlaced d n s = is.placed n s (found_there d n s found) in
    let target : IsPlaced d m t = is.placed m t (found_there d m t found2) in
    let P : DeskStep → Type 0 = λ z. IsOverlaid d z.0 s t skip in
    let last : Slot → Slot → DeskStep = λ s t. common_copied d s t skip in
    let third : Slot → Slot → DeskStep = λ s t. after (window_only d s) d (λ u. after (window_only d t) d (λ u. last s t)) in
    let second : Slot → DeskStep = λ s. after (slot_of d m) d (λ t. third s t) in
    after_good d (in_range n m) (λ u. after (slot_of d n) d second) P ok
    (λ u1 e1 ok1. after_good d (slot_of d n) second P ok1
    (λ s2 e2 ok2. after_good d (slot_of d m) (λ t. third s2 t) P ok2
    (λ t2 e3 ok3. after_good d (window_only d s2) (λ u. after (window_only d t2) d (λ u. last s2 t2)) P ok3
    (λ u4 e4 ok4. after_good d (window_only d t2) (λ u. last s2 t2) P ok4
    (λ u5 e5 ok5. (let at : last s2 t2 ≡ last s t = ap (λ (q : Slot). last q t2) (ok_inj s2 s (slot_of d n) e2 found) ∙ ap (λ (q : Slot). last s q) (ok_inj t2 t (slot_of d m) e3 found2) in
    subst P (sym at) (overlaid_cells d s t skip (corner d s).0 (corner d s).1 (corner d t).0 (corner d t).1 _ _ (omega (arith, is.grids, target.root)) source.canvas.fits target.canvas.fits refl refl)))))))

-- ---- dupwin
free_number : (a : Bool) (o : Option Slot) (u : Unit {0}) → (if a then Err Full else if is_some_slot o then Err NumberUsed else Ok tt) ≡ Ok u → (a ≡ false) × (o ≡ None)
free_number true o u h = absurd cc
free_number false (Some s) u h = absurd cc
free_number false None u h = (refl, refl)

small_number : (n : ℕ) → nat_lt 63 n ≡ false → n < 64
small_number n e = grind (arith, nat_tests)

whole_on : (rows cols y x : ℕ) → y < rows → x < cols → is_in (whole_area rows cols) y x ≡ true
whole_on rows cols y x lt lt2 = grind (arith, nat_tests)

taken_cell : (b : Bool) (x y : Content) → b ≡ true → (if b then x else y) ≡ x
taken_cell b x y e = rw (e) refl

none_less : (n : ℕ) → n - 0 ≡ n
none_less n = omega arith

none_more : (n : ℕ) → 0 + n ≡ n
none_more n = omega arith

copied_grid : (d : State) (s : Slot) (y x : ℕ) → Fits s.window.area (grid_at d s.root) → y < s.window.area.rows → x < s.window.area.cols → cell_at (copy_grid d s) y x ≡ cell d s y x
copied_grid d s y x fits lt lt2 =
    let a : Area = whole_area s.window.area.rows s.window.area.cols in
    let line : length (line_at (blank s.window.area.rows s.window.area.cols) y) ≡ s.window.area.cols = blank_line s.window.area.rows s.window.area.cols y lt in
    copied_by_place a (place s.window.area.top s.window.area.left) (grid_at d s.root) (blank s.window.area.rows s.window.area.cols) y x fits (omega arith)
    ∙ taken_cell (is_in a y x) _ _ (whole_on s.window.area.rows s.window.area.cols y x lt lt2)
    ∙ ap (λ (k : ℕ). cell_at (grid_at d s.root) (s.window.area.top + k) (s.window.area.left + (x - 0))) (none_less y)
    ∙ ap (λ (k : ℕ). cell_at (grid_at d s.root) (s.window.area.top + y) (s.window.area.left + k)) (none_less x)

pub copy_made : (d : State) (n w : ℕ) (s t : Slot) → IsDesk d → slot_of d w ≡ Ok s → (dupwin d n w).1 ≡ Ok tt → window_at (dupwin d n w).0 n ≡ Some t → IsCopyOf d (dupwin d n w).0 s t
copy_made d n w s t is found ok there =
    let source : IsPlaced d w s = is.placed w s (found_there d w s found) in
    let P : DeskStep → Type 0 = λ z. (t : Slot) → window_at z.0 n ≡ Some t → IsCopyOf d z.0 s t in
    let last : Slot → DeskStep = λ s. (root_added d n (copy_grid d s) (copy_origin d s) (record s.window { area = whole_area s.window.area.rows s.window.area.cols }), Ok tt) in
    after_good d (in_range n w) (λ u. after (free d n) d (λ u. after (slot_of d w) d last)) P ok
    (λ u1 e1 ok1. after_good d (free d n) (λ u. after (slot_of d w) d last) P ok1
    (λ u2 e2 ok2. after_good d (slot_of d w) last P ok2
    (λ s2 e3 ok3. (let number = free_number (nat_lt 63 n) (window_at d n) u2 e2 in
    let lt : n < 64 = small_number n number.0 in
    subst P (ap last (sym (ok_inj s2 s (slot_of d w) e3 found)))
    (λ t there. (let new : Slot = record { root = n; parent = None; window = record s.window { area = whole_area s.window.area.rows s.window.area.cols } } in
    let e : State = (last s).0 in
    let read : window_at e n ≡ Some new = get_or-set_same d.windows n (Some new) None (omega (arith, is.windows)) in
    let apart : s.root ≢ n = (λ eq. no_some (window_at d s.root) (ap (window_at d) eq ∙ number.1) source.made ⊥) in
    let grid : grid_at e n ≡ copy_grid d s = get_or-set_same d.grids n (copy_grid d s) [] (omega (arith, is.grids)) in
    subst (λ (q : Slot). IsCopyOf d e s q) (some_inj new t (sym read ∙ there))
    (record {
      rows = refl;
      cols = refl;
      cells = λ y x lt lt2. ap (λ (k : ℕ). cell_at (grid_at e n) k (0 + x)) (none_more y) ∙ ap (λ (k : ℕ). cell_at (grid_at e n) y k) (none_more x) ∙ ap (λ (g : Grid). cell_at g y x) grid ∙ copied_grid d s y x source.canvas.fits lt lt2;
      original = λ y x. ap (λ (g : Grid). cell_at g (s.window.area.top + y) (s.window.area.left + x)) (get_or-set_other d.grids n s.root (copy_grid d s) [] apart);
      own_grid = apart;
    }))))))) t there

pub copy_written : (d e f : State) (n : ℕ) (s t : Slot) (y x : ℕ) → IsCopyOf d e s t → OnlyWithin e f n t → y < s.window.area.rows → x < s.window.area.cols → cell f s y x ≡ cell d s y x
copy_written d e f n s t y x is only lt lt2 = apart_kept e f n t s y x only (inl is.own_grid) lt lt2 ∙ is.original y x

pub original_written : (d e f : State) (w : ℕ) (s t : Slot) (y x : ℕ) → IsCopyOf d e s t → OnlyWithin e f w s → y < t.window.area.rows → x < t.window.area.cols → cell f t y x ≡ cell e t y x
original_written d e f w s t y x is only lt lt2 = apart_kept e f w s t y x only (inl (λ eq. is.own_grid (sym eq))) lt lt2
