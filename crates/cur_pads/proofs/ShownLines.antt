-- Lines of a window that are copied to the virtual screen, place by place.
use Rattle.std.proofs.Common.{◌≡◌, ℕ, ◌+◌, ◌-◌, ◌<◌, ◌≤◌, ◌&&◌, nat_le, nat_lt, Bool, true, false, Option, Some, None, Result, Ok, Err, pos, length, set, refl, sym, ap, ◌∙◌, subst, arith, if◌then◌else◌}
use Rattle.std.proofs.lemmas.Bool.Decides.{nat_tests}
use Rattle.grids.specs.declared.areas.Area.{Area}
use Rattle.cur_drawing.specs.declared.refusals.Refusal.{Refusal}
use Rattle.cur_drawing.specs.declared.refusals.Refusal.TheVariants.{BadRegion}
use Rattle.cur_drawing.specs.Cells.{Content}
use Rattle.cur_drawing.specs.Grids.{Fits, cell_at, copied, is_in, line_at}
use Rattle.cur_drawing.specs.Calls.{place}
use Rattle.cur_drawing.specs.Windows.{place_below}
use Rattle.cur_drawing.proofs.ByPlace.{copied_by_place}
use Rattle.cur_screens.specs.declared.slots.Origin.{Origin}
use Rattle.cur_screens.specs.declared.slots.Slot.{Slot}
use Rattle.cur_screens.specs.VirtualScreen.{Screen, shown}
use Rattle.cur_windows.specs.Desks.{State, IsDesk, IsPlaced, cell, grid_at, origin_at, slot_of}
use Rattle.cur_windows.specs.Creations.{corner, window_only}
use Rattle.cur_windows.specs.Laws.{is_between}
use Rattle.cur_windows.specs.Refreshes.{Refresh, area_on_screen, cursor_on_screen, if_shown, lines_between, lines_of, noutrefresh_lines, part_on_screen}
use Rattle.cur_windows.proofs.Supports.{found_there}
use Rattle.cur_pads.specs.WindowPlaces.{AreLinesShown}
use Rattle.cur_pads.proofs.Copied.{if_number, le_tested, lt_tested}

-- the test before a step that was done has passed
passed : {A : Type 0} (r : Result A Refusal) (d : State) (v : Screen) (next : A → Refresh) (P : Refresh → Type 0) → (if_shown r d v next).2 ≡ Ok tt → ((a : A) → (next a).2 ≡ Ok tt → P (next a)) → P (if_shown r d v next)
passed (Ok a) d v next P h p = p a h
passed (Err e) d v next P h p = absurd cc

abbrev lines_from : ℕ → ℕ → Area → Area
lines_from t b a = record a { top = a.top + t; rows = b + 1 - t }

either_lines : (z : Bool) (part : Area) (d : State) (v : Screen) (next : Area → Refresh) (P : Refresh → Type 0) → (if_shown (if z then Ok part else Err BadRegion) d v next).2 ≡ Ok tt → (z ≡ true → P (next part)) →
    P (if_shown (if z then Ok part else Err BadRegion) d v next)
either_lines true part d v next P h p = p refl
either_lines false part d v next P h p = absurd cc

passed_lines : (o p : Option ℕ) (a : Area) (d : State) (v : Screen) (next : Area → Refresh) (P : Refresh → Type 0) → (if_shown (lines_between o p a) d v next).2 ≡ Ok tt →
    ((t b : ℕ) → o ≡ Some t → p ≡ Some b → nat_le t b ≡ true → P (next (lines_from t b a))) → P (if_shown (lines_between o p a) d v next)
passed_lines (Some t) (Some b) a d v next P h k = either_lines (nat_le t b) (lines_from t b a) d v next P h (k t b refl refl)
passed_lines (Some t) None a d v next P h k = absurd cc
passed_lines None p a d v next P h k = absurd cc

-- ---- by place
chosen_as : (p q : Bool) (x y z : Content) → p ≡ q → (p ≡ true → x ≡ y) → (if p then x else z) ≡ (if q then y else z)
chosen_as true true x y z e same = same refl
chosen_as false false x y z e same = refl
chosen_as true false x y z e same = absurd cc
chosen_as false true x y z e same = absurd cc

in_lines : (o : Origin) (a : Area) (t b i j : ℕ) → t ≤ b → b < a.rows → is_in (record a { top = o.top + (a.top + t); left = o.left + a.left; rows = b + 1 - t }) i j
    ≡ (is_in (record a { top = o.top + a.top; left = o.left + a.left }) i j && is_between (o.top + a.top + t) (o.top + a.top + b) i)
in_lines o a t b i j order below = grind (arith, nat_tests)

first_line : (o : Origin) (a : Area) (t b i j : ℕ) → is_in (record a { top = o.top + (a.top + t); left = o.left + a.left; rows = b + 1 - t }) i j ≡ true → o.top + (a.top + t) ≤ i
first_line o a t b i j on = grind (arith, nat_tests)

-- a place of the screen after a copy of lines, and the cell that is wanted there
abbrev lines_cell : State → Slot → ℕ → ℕ → Screen → ℕ → ℕ → Content
lines_cell d s t b v i j = cell_at (copied (part_on_screen d s (lines_from t b s.window.area)) (place (s.window.area.top + t) s.window.area.left) (grid_at d s.root) v.grid) i j

abbrev wanted_cell : State → Slot → ℕ → ℕ → Screen → ℕ → ℕ → Content
wanted_cell d s t b v i j =
    if is_in (area_on_screen d s) i j && is_between ((corner d s).0 + t) ((corner d s).0 + b) i then cell d s (i - (corner d s).0) (j - (corner d s).1) else cell_at v.grid i j

by_place : (d : State) (s : Slot) (t b : ℕ) (v : Screen) (i j : ℕ) → Fits s.window.area (grid_at d s.root) → t ≤ b → b < s.window.area.rows → j < length (line_at v.grid i) → lines_cell d s t b v i j ≡ wanted_cell d s t b v i j
by_place d s t b v i j fits order below near =
    let o : Origin = origin_at d s.root in let a : Area = s.window.area in
    let rows = fits.rows in
    let within : Fits (lines_from t b a) (grid_at d s.root) = record { rows = omega arith; cols = fits.cols } in
    copied_by_place (part_on_screen d s (lines_from t b a)) (place (a.top + t) a.left) (grid_at d s.root) v.grid i j within near
    ∙ chosen_as _ _ _ _ _ (in_lines o a t b i j order below) (λ on.
    let first : o.top + (a.top + t) ≤ i = first_line o a t b i j on in
    let row : a.top + t + (i - (o.top + (a.top + t))) ≡ a.top + (i - (o.top + a.top)) = omega arith in
    ap (λ (k : ℕ). cell_at (grid_at d s.root) k (a.left + (j - (o.left + a.left)))) row)

pub lines_shown : (d : State) (v : Screen) (n t b : ℕ) (s : Slot) → IsDesk d → slot_of d n ≡ Ok s → (noutrefresh_lines d v n (pos t) (pos b)).2 ≡ Ok tt → AreLinesShown d s t b v (noutrefresh_lines d v n (pos t) (pos b)).1
lines_shown d v n t b s is found ok =
    let old : IsPlaced d n s = is.placed n s (found_there d n s found) in
    let copy : Slot → Area → Refresh = λ s a. (
      record d { windows = set d.windows n (Some (record s { window = record s.window { clears = false } })) },
      shown (part_on_screen d s a) (grid_at d s.root) (place a.top a.left) (cursor_on_screen d s) s.window.clears v,
      Ok tt,
    ) in
    let next : Slot → Refresh = λ s. if_shown (window_only d s) d v (λ u. if_shown (lines_of (pos t) (pos b) s.window.area) d v (copy s)) in
    let same : noutrefresh_lines d v n (pos t) (pos b) ≡ next s = ap (λ (r : Result Slot Refusal). if_shown r d v next) found in
    subst (λ (x : Refresh). AreLinesShown d s t b v x.1) (sym same)
    (passed (window_only d s) d v _ (λ x. AreLinesShown d s t b v x.1) (sym (ap (λ (x : Refresh). x.2) same) ∙ ok)
    (λ u done. passed_lines (place_below (pos t) s.window.area.rows) (place_below (pos b) s.window.area.rows) s.window.area d v (copy s) (λ x. AreLinesShown d s t b v x.1) done
    (λ k l first last order i j near.
    let e = if_number (nat_lt t s.window.area.rows) t k first in
    let f = if_number (nat_lt b s.window.area.rows) b l last in
    subst (λ (x : ℕ). lines_cell d s x l v i j ≡ wanted_cell d s t b v i j) e.1
    (subst (λ (x : ℕ). lines_cell d s t x v i j ≡ wanted_cell d s t b v i j) f.1
    (by_place d s t b v i j old.canvas.fits (le_tested t b (subst (λ (x : ℕ). nat_le x b ≡ true) (sym e.1) (subst (λ (x : ℕ). nat_le k x ≡ true) (sym f.1) order))) (lt_tested b s.window.area.rows f.0) near)))))
