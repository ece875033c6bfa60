-- A refused call leaves the desk as it was.
use Rattle.std.proofs.Common.{◌≡◌, ◌≢◌, ℕ, nat_lt, nat_le, List, [], Bool, true, false, Option, Some, None, Result, Ok, Err, ℤ, set, refl, sym, ap, ◌∙◌, if◌then◌else◌}
use Rattle.std.proofs.lemmas.List.{set-get_or}
use Rattle.cur_drawing.specs.declared.puts.Put.{Put}
use Rattle.cur_drawing.specs.declared.refusals.Refusal.{Refusal}
use Rattle.cur_drawing.specs.declared.refusals.Refusal.TheVariants.{NoScroll, Full, BadRegion, OutOfWindow, OutOfScreen}
use Rattle.cur_drawing.specs.declared.windows.Window.{Window}
use Rattle.cur_drawing.specs.Grids.{Grid}
use Rattle.cur_drawing.specs.Windows as window_calls
use Rattle.cur_drawing.specs.Calls.{Canvas, CanvasStep, canvas}
use Rattle.cur_drawing.specs.Laws as acts
use Rattle.cur_drawing.specs.declared.spans.CopySpan.{CopySpan}
use Rattle.cur_screens.specs.declared.slots.Slot.{Slot}
use Rattle.cur_windows.specs.Copies as copying
use Rattle.cur_windows.specs.Desks as desks
use Rattle.cur_windows.specs.Desks.{State, DeskStep, after, grid_at, window_at, slot_of, some_slot, with_window, with_canvas}
use Rattle.cur_windows.specs.Laws.{UnchangedIfRefused}
use Rattle.cur_drawing.specs.Spans as spans
use Rattle.cur_windows.specs.Creations as making

some_found : (o : Option Slot) (s : Slot) → some_slot o ≡ Ok s → o ≡ Some s
some_found (Some t) s h = cc
some_found None s h = absurd cc

not_full : (b : Bool) (o : Option Slot) (s : Slot) → (if b then Err Full else some_slot o) ≡ Ok s → o ≡ Some s
not_full true o s h = absurd cc
not_full false o s h = some_found o s h

-- the window found has the number
pub found_there : (d : State) (n : ℕ) (s : Slot) → slot_of d n ≡ Ok s → window_at d n ≡ Some s
found_there d n s h = not_full (nat_lt 63 n) (window_at d n) s h

back_after : {A : Type 0} (d : State) (r : Result A Refusal) (next : A → DeskStep) → ((a : A) → UnchangedIfRefused d (next a)) → UnchangedIfRefused d (after r d next)
back_after d (Ok a) next p e h = p a e h
back_after d (Err x) next p e h = refl

back_found : (d : State) (r : Result Slot Refusal) (next : Slot → DeskStep) → ((s : Slot) → r ≡ Ok s → UnchangedIfRefused d (next s)) → UnchangedIfRefused d (after r d next)
back_found d (Ok s) next p e h = p s refl e h
back_found d (Err x) next p e h = refl

back_done : (d e : State) → UnchangedIfRefused d (e, Ok tt)
back_done d e x h = absurd cc

-- a window and its grid without changes
window_back : (d : State) (n : ℕ) (s : Slot) → slot_of d n ≡ Ok s → set d.windows n (Some s) ≡ d.windows
window_back d n s h = ap (λ (o : Option Slot). set d.windows n o) (sym (found_there d n s h)) ∙ set-get_or d.windows n None

grid_back : (d : State) (k : ℕ) → set d.grids k (grid_at d k) ≡ d.grids
grid_back d k = set-get_or d.grids k []

canvas_back : (d : State) (n : ℕ) (s : Slot) (t : Canvas) → slot_of d n ≡ Ok s → t ≡ canvas (grid_at d s.root) s.window → with_canvas d n s t ≡ d
canvas_back d n s t h e =
    ap (λ (x : Canvas). with_canvas d n s x) e
    ∙ ap (λ (gs : List Grid). record d { grids = gs; windows = set d.windows n (Some s) }) (grid_back d s.root)
    ∙ ap (λ (ws : List (Option Slot)). record d { windows = ws }) (window_back d n s h)

pub on_window : (d : State) (n : ℕ) (act : Canvas → CanvasStep) → acts.ChangesNothingIfRefused act → UnchangedIfRefused d (desks.on_window d n act)
on_window d n act back = back_found d (slot_of d n) (λ s. let t = act (canvas (grid_at d s.root) s.window) in (with_canvas d n s t.0, t.1))
    (λ s found e h. canvas_back d n s (act (canvas (grid_at d s.root) s.window)).0 found (back (canvas (grid_at d s.root) s.window) e h))

one_refusal : (d : State) (r : Result Slot Refusal) (next : Slot → DeskStep) (e : Refusal) → ((s : Slot) → r ≡ Ok s → (next s).1 ≡ Err e → (next s).0 ≡ d) → (after r d next).1 ≡ Err e → (after r d next).0 ≡ d
one_refusal d (Ok s) next e p h = p s refl h
one_refusal d (Err x) next e p h = refl

pub on_window_but : (d : State) (n : ℕ) (act : Canvas → CanvasStep) → acts.ChangesNothingIfRefusedButNoScroll act → (e : Refusal) → e ≢ NoScroll → (desks.on_window d n act).1 ≡ Err e → (desks.on_window d n act).0 ≡ d
on_window_but d n act back e other =
    one_refusal d (slot_of d n) (λ s. let t = act (canvas (grid_at d s.root) s.window) in (with_canvas d n s t.0, t.1)) e
    (λ s found h. canvas_back d n s (act (canvas (grid_at d s.root) s.window)).0 found (back (canvas (grid_at d s.root) s.window) e other h))

pub on_grid : (d : State) (n : ℕ) (act : Canvas → CanvasStep) → acts.ChangesNothingIfRefused act → UnchangedIfRefused d (desks.on_grid d n act)
on_grid d n act back = back_found d (slot_of d n) (λ s. let t = act (canvas (grid_at d s.root) s.window) in (record d { grids = set d.grids s.root t.0.grid }, t.1))
    (λ s found e h. ap (λ (t : Canvas). record d { grids = set d.grids s.root t.grid }) (back (canvas (grid_at d s.root) s.window) e h)
    ∙ ap (λ (gs : List Grid). record d { grids = gs }) (grid_back d s.root))

-- a call on the window alone
abbrev WindowStepBack : (Window → window_calls.WindowStep) → Type 0
WindowStepBack act = (w : Window) (e : Refusal) → (act w).1 ≡ Err e → (act w).0 ≡ w

on_cursor : (d : State) (n : ℕ) (act : Window → window_calls.WindowStep) → WindowStepBack act → UnchangedIfRefused d (desks.on_cursor d n act)
on_cursor d n act back = back_found d (slot_of d n) (λ s. let t = act s.window in (with_window d n s t.0, t.1))
    (λ s found e h. ap (λ (w : Window). with_window d n s w) (back s.window e h) ∙ ap (λ (ws : List (Option Slot)). record d { windows = ws }) (window_back d n s found))

moved_back : (y x : Option ℕ) (w : Window) (e : Refusal) → (window_calls.moved y x w).1 ≡ Err e → (window_calls.moved y x w).0 ≡ w
moved_back (Some y) (Some x) w e h = absurd cc
moved_back (Some y) None w e h = refl
moved_back None x w e h = refl

abbrev either : Bool → Window → Window → Refusal → window_calls.WindowStep
either b v w x = if b then (v, Ok tt) else (w, Err x)

either_back : (b : Bool) (v w : Window) (x e : Refusal) → (either b v w x).1 ≡ Err e → (either b v w x).0 ≡ w
either_back true v w x e h = absurd cc
either_back false v w x e h = refl

bounded_back : (t b : Option ℕ) (w : Window) (e : Refusal) → (window_calls.bounded t b w).1 ≡ Err e → (window_calls.bounded t b w).0 ≡ w
bounded_back (Some t) (Some b) w e h = either_back (nat_le t b) (record w { region_top = t; region_bottom = b }) w BadRegion e h
bounded_back (Some t) None w e h = refl
bounded_back None b w e h = refl

paired_back : (p : Option ℕ) (w : Window) (e : Refusal) → (window_calls.paired p w).1 ≡ Err e → (window_calls.paired p w).0 ≡ w
paired_back (Some p) w e h = absurd cc
paired_back None w e h = refl

if_ok_back : (r : Result (Unit {0}) Refusal) (w v : Window) (e : Refusal) → (window_calls.if_ok r w v).1 ≡ Err e → (window_calls.if_ok r w v).0 ≡ w
if_ok_back (Ok u) w v e h = absurd cc
if_ok_back (Err x) w v e h = refl

pub move_to : (d : State) (n : ℕ) (y x : ℤ) → UnchangedIfRefused d (desks.on_cursor d n (window_calls.move_to y x))
move_to d n y x = on_cursor d n (window_calls.move_to y x) (λ w. moved_back (window_calls.place_below y w.area.rows) (window_calls.place_below x w.area.cols) w)

pub set_region : (d : State) (n : ℕ) (t b : ℤ) → UnchangedIfRefused d (desks.on_cursor d n (window_calls.set_region t b))
set_region d n t b = on_cursor d n (window_calls.set_region t b) (λ w. bounded_back (window_calls.place_below t w.area.rows) (window_calls.place_below b w.area.rows) w)

pub set_pair : (d : State) (n : ℕ) (p : ℤ) → UnchangedIfRefused d (desks.on_cursor d n (window_calls.set_pair p))
set_pair d n p = on_cursor d n (window_calls.set_pair p) (λ w. paired_back (window_calls.place_below p 64) w)

pub set_background : (d : State) (n : ℕ) (p : Put) → UnchangedIfRefused d (desks.on_cursor d n (window_calls.set_background p))
set_background d n p = on_cursor d n (window_calls.set_background p) (λ w. if_ok_back (window_calls.checked (window_calls.is_printed p.byte) (window_calls.is_pair p.pair)) w (record w { background = window_calls.as_is p }))

-- ---- making, moving and deleting
pub newwin : (d : State) (n : ℕ) (lines cols y x : ℤ) → UnchangedIfRefused d (making.newwin d n lines cols y x)
newwin d n lines cols y x = back_after d (making.free d n) _ (λ u. back_after d (spans.area_within d.rows d.cols lines cols y x OutOfScreen) _ (λ a. back_done d _))

subwindow_at : (d : State) (n w : ℕ) (s : Slot) (lines cols y x : ℤ) → UnchangedIfRefused d (making.subwindow_at d n w s lines cols y x)
subwindow_at d n w s lines cols y x = back_after d (spans.area_within s.window.area.rows s.window.area.cols lines cols y x OutOfWindow) _ (λ a. back_done d _)

pub derwin : (d : State) (n w : ℕ) (lines cols y x : ℤ) → UnchangedIfRefused d (making.derwin d n w lines cols y x)
derwin d n w lines cols y x = back_after d (making.in_range n w) _ (λ u. back_after d (making.free d n) _ (λ u. back_after d (slot_of d w) _ (λ s. back_after d (making.window_only d s) _ (λ u. subwindow_at d n w s lines cols y x))))

pub subwin : (d : State) (n w : ℕ) (lines cols y x : ℤ) → UnchangedIfRefused d (making.subwin d n w lines cols y x)
subwin d n w lines cols y x = back_after d (making.in_range n w) _ (λ u. back_after d (making.free d n) _ (λ u. back_after d (slot_of d w) _ (λ s. back_after d (making.window_only d s) _ (λ u. subwindow_at d n w s lines cols _ _))))

pub dupwin : (d : State) (n w : ℕ) → UnchangedIfRefused d (making.dupwin d n w)
dupwin d n w = back_after d (making.in_range n w) _ (λ u. back_after d (making.free d n) _ (λ u. back_after d (slot_of d w) _ (λ s. back_done d _)))

pub delwin : (d : State) (n : ℕ) → UnchangedIfRefused d (making.delwin d n)
delwin d n = back_after d (slot_of d n) _ (λ s. back_after d (making.childless d n) _ (λ u. back_done d _))

placed_back : (d : State) (s : Slot) (y x : Option ℕ) → UnchangedIfRefused d (making.moved d s y x)
placed_back d s (Some y) (Some x) e h = absurd cc
placed_back d s (Some y) None e h = refl
placed_back d s None x e h = refl

pub mvwin : (d : State) (n : ℕ) (y x : ℤ) → UnchangedIfRefused d (making.mvwin d n y x)
mvwin d n y x = back_after d (slot_of d n) _ (λ s. back_after d (making.window_only d s) _ (λ u. back_after d (making.no_sub s.parent) _
    (λ u. placed_back d s (spans.start_within y s.window.area.rows d.rows) (spans.start_within x s.window.area.cols d.cols))))

-- ---- copying
copied_back : (o : Result (Unit {0}) Refusal) (d : State) (s t : Slot) (skip : Bool) (v h : Option CopySpan) → UnchangedIfRefused d (copying.copied_or o d s t skip v h)
copied_back o d s t skip (Some v) (Some h) e p = absurd cc
copied_back o d s t skip (Some v) None e p = refl
copied_back o d s t skip None h e p = refl

pub common_part : (skip : Bool) (d : State) (n m : ℕ) → UnchangedIfRefused d (copying.common_part skip d n m)
common_part skip d n m = back_after d (making.in_range n m) _ (λ u. back_after d (slot_of d n) _ (λ s. back_after d (slot_of d m) _ (λ t.
    back_after d (making.window_only d s) _ (λ u. back_after d (making.window_only d t) _ (λ u. copied_back (Ok tt) d s t skip _ _)))))

pub copywin : (d : State) (n m : ℕ) (sr sc dr dc er ec : ℤ) (skip : Bool) → UnchangedIfRefused d (copying.copywin d n m sr sc dr dc er ec skip)
copywin d n m sr sc dr dc er ec skip = back_after d (making.in_range n m) _ (λ u. back_after d (slot_of d n) _ (λ s. back_after d (slot_of d m) _ (λ t.
    back_after d (copying.in_order dr er dc ec) _ (λ u. copied_back (Err OutOfWindow) d s t skip _ _))))
