-- A call changes no cell outside its window's rectangle, and no other window.
use Rattle.std.proofs.Common.{◌≡◌, ◌≢◌, ◌⊎◌, ℕ, ◌+◌, ◌<◌, [], true, false, Some, None, Result, Ok, length, get_or, set, refl, sym, ap, ◌∙◌, subst, inl, inr, arith}
use Rattle.std.proofs.lemmas.Bool.{cases_eq}
use Rattle.std.proofs.lemmas.Bool.Decides.{nat_tests}
use Rattle.std.proofs.lemmas.List.{get_or-set_same, get_or-set_other}
use Rattle.grids.specs.declared.areas.Area.{Area}
use Rattle.cur_drawing.specs.declared.refusals.Refusal.{Refusal}
use Rattle.cur_drawing.specs.declared.windows.Window.{Window}
use Rattle.cur_drawing.specs.Grids.{Grid, is_in, cell_at}
use Rattle.cur_drawing.specs.Windows.{WindowStep}
use Rattle.cur_drawing.specs.Calls.{Canvas, CanvasStep, canvas}
use Rattle.cur_drawing.specs.Laws.{IsLocal, Stays}
use Rattle.cur_screens.specs.declared.slots.Slot.{Slot}
use Rattle.cur_windows.specs.Desks as desks
use Rattle.cur_windows.specs.Desks.{State, DeskStep, IsDesk, IsPlaced, after, grid_at, window_at, slot_of, with_window, with_canvas, cell}
use Rattle.cur_windows.specs.Laws.{OnlyWithin, Apart}
use Rattle.cur_windows.proofs.Supports.{found_there}

-- one grid is written, and only within the window's rectangle
pub grid_within : (d : State) (s : Slot) (g : Grid) (k i j : ℕ) → s.root < length d.grids → ((i j : ℕ) → is_in s.window.area i j ≡ false → cell_at g i j ≡ cell_at (grid_at d s.root) i j) →
    (k ≢ s.root) ⊎ (is_in s.window.area i j ≡ false) → cell_at (get_or (set d.grids s.root g) k []) i j ≡ cell_at (grid_at d k) i j
grid_within d s g k i j lt same (inl other) = ap (λ (x : Grid). cell_at x i j) (get_or-set_other d.grids s.root k g [] other)
grid_within d s g k i j lt same (inr off) = elim (cases_eq k s.root) [
  | inl eq ↦ rw (eq) (ap (λ (x : Grid). cell_at x i j) (get_or-set_same d.grids s.root g [] lt) ∙ same i j off)
  | inr other ↦ ap (λ (x : Grid). cell_at x i j) (get_or-set_other d.grids s.root k g [] other)
]

pub on_window : (d : State) (n : ℕ) (s : Slot) (act : Canvas → CanvasStep) → IsDesk d → slot_of d n ≡ Ok s → IsLocal act → OnlyWithin d (desks.on_window d n act).0 n s
on_window d n s act is found local =
    let old : IsPlaced d n s = is.placed n s (found_there d n s found) in
    let x : CanvasStep = act (canvas (grid_at d s.root) s.window) in
    let stays : Stays (canvas (grid_at d s.root) s.window) x.0 = local (canvas (grid_at d s.root) s.window) old.canvas in
    let next : Slot → DeskStep = λ s. let t = act (canvas (grid_at d s.root) s.window) in (with_canvas d n s t.0, t.1) in
    let eq : desks.on_window d n act ≡ next s = ap (λ (r : Result Slot Refusal). after r d next) found in
    subst (λ (y : DeskStep). OnlyWithin d y.0 n s) (sym eq) (record {
      cells = λ k i j off. grid_within d s x.0.grid k i j (omega (arith, is.grids, old.root)) stays.outside off;
      windows = λ m other. get_or-set_other d.windows n m (Some (record s { window = x.0.window })) None other;
    })

pub on_grid : (d : State) (n : ℕ) (s : Slot) (act : Canvas → CanvasStep) → IsDesk d → slot_of d n ≡ Ok s → IsLocal act → OnlyWithin d (desks.on_grid d n act).0 n s
on_grid d n s act is found local =
    let old : IsPlaced d n s = is.placed n s (found_there d n s found) in
    let x : CanvasStep = act (canvas (grid_at d s.root) s.window) in
    let stays : Stays (canvas (grid_at d s.root) s.window) x.0 = local (canvas (grid_at d s.root) s.window) old.canvas in
    let next : Slot → DeskStep = λ s. let t = act (canvas (grid_at d s.root) s.window) in (record d { grids = set d.grids s.root t.0.grid }, t.1) in
    let eq : desks.on_grid d n act ≡ next s = ap (λ (r : Result Slot Refusal). after r d next) found in
    subst (λ (y : DeskStep). OnlyWithin d y.0 n s) (sym eq) (record {
      cells = λ k i j off. grid_within d s x.0.grid k i j (omega (arith, is.grids, old.root)) stays.outside off;
      windows = λ m other. refl;
    })

pub on_cursor : (d : State) (n : ℕ) (s : Slot) (act : Window → WindowStep) → slot_of d n ≡ Ok s → OnlyWithin d (desks.on_cursor d n act).0 n s
on_cursor d n s act found =
    let next : Slot → DeskStep = λ s. let t = act s.window in (with_window d n s t.0, t.1) in
    let eq : desks.on_cursor d n act ≡ next s = ap (λ (r : Result Slot Refusal). after r d next) found in
    subst (λ (y : DeskStep). OnlyWithin d y.0 n s) (sym eq) (record {
      cells = λ k i j off. refl;
      windows = λ m other. get_or-set_other d.windows n m (Some (record s { window = (act s.window).0 })) None other;
    })

-- a place of a window
place_within : (a : Area) (y x : ℕ) → y < a.rows → x < a.cols → is_in a (a.top + y) (a.left + x) ≡ true
place_within a y x lt lt2 = grind (arith, nat_tests)

-- the cells of another window, which has none in common with this one
pub apart_kept : (d e : State) (n : ℕ) (s t : Slot) (y x : ℕ) → OnlyWithin d e n s → Apart s t → y < t.window.area.rows → x < t.window.area.cols → cell e t y x ≡ cell d t y x
apart_kept d e n s t y x only (inl other) lt lt2 = only.cells t.root (t.window.area.top + y) (t.window.area.left + x) (inl other)
apart_kept d e n s t y x only (inr off) lt lt2 =
    only.cells t.root (t.window.area.top + y) (t.window.area.left + x) (inr (off (t.window.area.top + y) (t.window.area.left + x) (place_within t.window.area y x lt lt2)))
