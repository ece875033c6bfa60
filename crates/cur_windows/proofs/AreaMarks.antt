-- A marked rectangle of the screen, and calls that change nothing outside a window's rectangle.
use Rattle.std.proofs.Common.{◌≡◌, ℕ, ◌+◌, false, List, [], Option, Result, Ok, Err, refl, sym, ap, ◌∙◌, subst, arith}
use Rattle.std.proofs.lemmas.Bool.Decides.{nat_tests}
use Rattle.std.proofs.lemmas.List.{set-get_or}
use Rattle.grids.specs.declared.areas.Area.{Area}
use Rattle.cur_drawing.specs.declared.refusals.Refusal.{Refusal}
use Rattle.cur_drawing.specs.Calls.{Canvas, CanvasStep, canvas}
use Rattle.cur_drawing.specs.Grids.{Grid, cell_at, is_in}
use Rattle.cur_drawing.specs.Laws.{IsLocal}
use Rattle.cur_drawing.proofs.Stability.{stays_same}
use Rattle.cur_screens.specs.declared.slots.Origin.{Origin}
use Rattle.cur_screens.specs.declared.slots.Slot.{Slot}
use Rattle.cur_windows.specs.Desks as desks
use Rattle.cur_windows.specs.Desks.{DeskStep, IsDesk, IsPlaced, State, after, grid_at, on_grid, on_window, origin_at, slot_of, with_canvas}
use Rattle.cur_screens.specs.Touched.{Markings}
use Rattle.cur_windows.specs.TouchedWindows.{KeepsShown, MarksSlot, MarksWindow, ShowsBut}
use Rattle.cur_windows.proofs.Shapes.{KeepsShape}
use Rattle.cur_windows.proofs.Supports.{found_there}
use Rattle.cur_windows.proofs.TouchedFacts.{SparesGrid, slot_spared, with_grid}

-- ---- calls that change nothing outside a window's rectangle

-- a place of the grid outside the marked rectangle of the screen is outside the window
outside : (o : Origin) (a : Area) (i j : ℕ) → is_in (record { top = o.top + a.top; left = o.left + a.left; rows = a.rows; cols = a.cols }) (o.top + i) (o.left + j) ≡ false → is_in a i j ≡ false
outside o a i j off = grind (arith, nat_tests, off)

area_spared : (d : State) (s : Slot) (h : Grid) (t u : Markings) → ((i j : ℕ) → is_in s.window.area i j ≡ false → cell_at h i j ≡ cell_at (grid_at d s.root) i j) → MarksSlot t u d s → SparesGrid t u d s h
area_spared d s h t u same marks = record {
  grid = λ lies some. record {
    kept = (marks.grid lies some).kept;
    same = λ i j off. same i j (outside (origin_at d s.root) s.window.area i j ((marks.grid lies some).cells _ _ off));
  };
  none = marks.none;
  others = marks.others;
}

-- the canvas of a window after such a call
abbrev acted : State → (Canvas → CanvasStep) → Slot → Canvas
acted d act s = (act (canvas (grid_at d s.root) s.window)).0

slot_marked : (d : State) (n : ℕ) (s : Slot) (ws : List (Option Slot)) (act : Canvas → CanvasStep) (t u : Markings) → IsDesk d → IsLocal act → KeepsShape act → slot_of d n ≡ Ok s → MarksSlot t u d s → KeepsShown t d u (with_grid d s (acted d act s).grid ws)
slot_marked d n s ws act t u desk local shape found marks =
    let placed : IsPlaced d n s = desk.placed n s (found_there d n s found) in
    slot_spared d ws s (acted d act s).grid t u (omega (arith, desk.grids, placed.root)) (shape (canvas (grid_at d s.root) s.window))
    (area_spared d s (acted d act s).grid t u (local (canvas (grid_at d s.root) s.window) placed.canvas).outside marks)

-- a call of any effect on the windows
after_marked : (x : Result Slot Refusal) (t u : Markings) (d e : State) (n : ℕ) (act : Canvas → CanvasStep) (r : Result (Unit {0}) Refusal) (next : Slot → DeskStep) (ws : Slot → List (Option Slot)) → IsDesk d → IsLocal act → KeepsShape act →
    ((s : Slot) → (next s).0 ≡ with_grid d s (acted d act s).grid (ws s)) → slot_of d n ≡ x → (e, r) ≡ after x d next → MarksWindow t u d x → KeepsShown t d u e
after_marked (Ok s) t u d e n act r next ws desk local shape leaves found is marks =
    subst (λ (y : State). KeepsShown t d u y) (sym (ap (λ (y : DeskStep). y.0) is ∙ leaves s)) (slot_marked d n s (ws s) act t u desk local shape found marks)
after_marked (Err x) t u d e n act r next ws desk local shape leaves found is marks = λ v shown.
    subst (λ (y : State). ShowsBut u y v) (sym (ap (λ (y : DeskStep). y.0) is)) (subst (λ (y : Markings). ShowsBut y d v) (sym marks) shown)

pub keeps_on_grid : (t u : Markings) (d e : State) (n : ℕ) (act : Canvas → CanvasStep) (r : Result (Unit {0}) Refusal) → IsDesk d → IsLocal act → KeepsShape act → (e, r) ≡ on_grid d n act → MarksWindow t u d (slot_of d n) → KeepsShown t d u e
keeps_on_grid t u d e n act r desk local shape is marks = after_marked (slot_of d n) t u d e n act r _ (λ s. d.windows) desk local shape (λ s. refl) refl is marks

pub keeps_on_window : (t u : Markings) (d e : State) (n : ℕ) (act : Canvas → CanvasStep) (r : Result (Unit {0}) Refusal) → IsDesk d → IsLocal act → KeepsShape act → (e, r) ≡ on_window d n act → MarksWindow t u d (slot_of d n) → KeepsShown t d u e
keeps_on_window t u d e n act r desk local shape is marks = after_marked (slot_of d n) t u d e n act r _ (λ s. (with_canvas d n s (acted d act s)).windows) desk local shape (λ s. refl) refl is marks

-- a call that changes nothing
pub keeps_untouched : (t u : Markings) (d e : State) (n : ℕ) (r : Result (Unit {0}) Refusal) → IsDesk d → (e, r) ≡ desks.unchanged d n → MarksWindow t u d (slot_of d n) → KeepsShown t d u e
keeps_untouched t u d e n r desk is marks =
    after_marked (slot_of d n) t u d e n (λ s. (s, Ok tt)) r _ (λ s. d.windows) desk (λ s legal. stays_same s legal) (λ s. refl)
    (λ s. ap (λ (gs : List Grid). record d { grids = gs }) (sym (set-get_or d.grids s.root []))) refl is marks
