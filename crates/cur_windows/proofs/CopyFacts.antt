-- Copying from one grid of a desk to another.
use Rattle.std.proofs.Common.{ℤ, Option, Result, Ok, Err, ◌≡◌, ◌≢◌, ℕ, ◌<◌, List, [], ◌++◌, Bool, true, false, length, get_or, set, take, sym, ap, ◌∙◌, subst, arith, if◌then◌else◌}
use Rattle.std.proofs.lemmas.List.{get_or-set_other, length-set, get_or_default, set-set, take_at}
use Rattle.grids.specs.declared.areas.Area.{Area}
use Rattle.grids.specs.declared.areas.Place.{Place}
use Rattle.cur_drawing.specs.Cells.{unless_space}
use Rattle.cur_drawing.specs.Grids.{Grid, overlaid, combined, taken, is_in, shape_of}
use Rattle.cur_drawing.proofs.DrawingFacts.{shape_of-drawn}
use Rattle.cur_drawing.specs.declared.spans.CopySpan.{CopySpan}
use Rattle.cur_screens.specs.declared.slots.Slot.{Slot}
use Rattle.cur_drawing.specs.declared.refusals.Refusal.{Refusal}
use Rattle.cur_drawing.specs.declared.refusals.Refusal.TheVariants.{OutOfWindow}
use Rattle.cur_windows.specs.Desks.{State, DeskStep, IsDesk, slot_of, after}
use Rattle.cur_windows.specs.Creations.{in_range}
use Rattle.cur_drawing.specs.Spans.{matched}
use Rattle.cur_windows.specs.Copies.{spans_copied, target_area, source_place, copied_or, copywin, in_order}
use Rattle.cur_windows.proofs.Closures.{grids_kept, shape_kept}

-- the target's grid is taken out, and the source is another grid
pub other_grid : (gs : List Grid) (s t : ℕ) (spare was new x y : Grid) (a : Area) (from : Place) (skip : Bool) → s < length gs → t < length gs → s ≢ t →
    was ≡ get_or gs t y → new ≡ overlaid a from skip (get_or (set gs t spare) s x) was → set (set gs t spare) t new ≡ set gs t (overlaid a from skip (get_or gs s []) (get_or gs t []))
other_grid gs s t spare was new x y a from skip lt lt2 apart at e =
    let target : was ≡ get_or gs t [] = at ∙ get_or_default gs t y [] lt2 in
    let other : get_or (set gs t spare) s x ≡ get_or gs s [] = get_or-set_other gs t s spare x apart ∙ get_or_default gs s x [] lt in
    set-set gs t spare new
    ∙ ap (set gs t) (e ∙ ap (λ (g : Grid). overlaid a from skip g was) other ∙ ap (λ (g : Grid). overlaid a from skip (get_or gs s []) g) target)

overlaid_shape : (a : Area) (from : Place) (skip : Bool) (source g : Grid) → shape_of (overlaid a from skip source g) ≡ shape_of g
overlaid_shape a from true source g = shape_of-drawn (λ i j old. if is_in a i j then combined a from unless_space source i j old else old) g
overlaid_shape a from false source g = shape_of-drawn (λ i j old. if is_in a i j then taken a from source i j old else old) g

-- the slice of all grids is all grids
whole_slice : (gs zs : List Grid) (n : ℕ) → length gs ≡ n → take n (gs ++ zs) ≡ gs
whole_slice gs zs n e = take_at gs zs n e

pub spans_desk : (d : State) (s t : Slot) (v h : CopySpan) (skip : Bool) (us gs zs : List Grid) (n : ℕ) → IsDesk d → t.root < 64 → us ≡ d.grids → length us ≡ n →
    gs ≡ set us t.root (overlaid (target_area t v h) (source_place s v h) skip (get_or us s.root []) (get_or us t.root [])) → IsDesk (record d { grids = take n (gs ++ zs) })
spans_desk d s t v h skip us gs zs n is lt same len e =
    let new : Grid = overlaid (target_area t v h) (source_place s v h) skip (get_or d.grids s.root []) (get_or d.grids t.root []) in
    let all : gs ≡ set d.grids t.root new = e ∙ ap (λ (xs : List Grid). set xs t.root (overlaid (target_area t v h) (source_place s v h) skip (get_or xs s.root []) (get_or xs t.root []))) same in
    let whole : take n (gs ++ zs) ≡ set d.grids t.root new = whole_slice gs zs n (ap length e ∙ length-set us t.root _ ∙ len) ∙ all in
    subst (λ (xs : List Grid). IsDesk (record d { grids = xs })) (sym whole)
    (grids_kept d (set d.grids t.root new) is (length-set d.grids t.root new ∙ is.grids)
    (λ k. shape_kept d.grids t.root k new (omega (arith, is.grids)) (overlaid_shape (target_area t v h) (source_place s v h) skip (get_or d.grids s.root []) (get_or d.grids t.root []))))

pub spans_view : (d now : State) (s t : Slot) (v h : CopySpan) (skip : Bool) (us gs zs : List Grid) (n : ℕ) → d ≡ now → us ≡ d.grids → length us ≡ n →
    gs ≡ set us t.root (overlaid (target_area t v h) (source_place s v h) skip (get_or us s.root []) (get_or us t.root [])) → record d { grids = take n (gs ++ zs) } ≡ spans_copied now s t v h skip
spans_view d now s t v h skip us gs zs n view same len e =
    let new : Grid = overlaid (target_area t v h) (source_place s v h) skip (get_or d.grids s.root []) (get_or d.grids t.root []) in
    let all : gs ≡ set d.grids t.root new = e ∙ ap (λ (xs : List Grid). set xs t.root (overlaid (target_area t v h) (source_place s v h) skip (get_or xs s.root []) (get_or xs t.root []))) same in
    let whole : take n (gs ++ zs) ≡ set d.grids t.root new = whole_slice gs zs n (ap length e ∙ length-set us t.root _ ∙ len) ∙ all in
    ap (λ (xs : List Grid). record d { grids = xs }) whole ∙ ap (λ (x : State). spans_copied x s t v h skip) view

-- copywin, if all tests pass
pub copywin_by : (d : State) (n m : ℕ) (sr sc dr dc er ec : ℤ) (skip : Bool) (u w : Unit {0}) (s t : Slot) (rows cols : Option CopySpan) → Ok u ≡ in_range n m → Ok s ≡ slot_of d n → Ok t ≡ slot_of d m → Ok w ≡ in_order dr er dc ec →
    rows ≡ matched sr dr er s.window.area.rows t.window.area.rows → cols ≡ matched sc dc ec s.window.area.cols t.window.area.cols → copied_or (Err OutOfWindow) d s t skip rows cols ≡ copywin d n m sr sc dr dc er ec skip
copywin_by d n m sr sc dr dc er ec skip u w s t rows cols range source target order v h =
    let last : Slot → Slot → DeskStep = λ s t. copied_or (Err OutOfWindow) d s t skip (matched sr dr er s.window.area.rows t.window.area.rows) (matched sc dc ec s.window.area.cols t.window.area.cols) in
    let ordered : Slot → Slot → DeskStep = λ s t. after (in_order dr er dc ec) d (λ u. last s t) in
    ap (λ (r : Option CopySpan). copied_or (Err OutOfWindow) d s t skip r cols) v
    ∙ ap (λ (r : Option CopySpan). copied_or (Err OutOfWindow) d s t skip (matched sr dr er s.window.area.rows t.window.area.rows) r) h
    ∙ ap (λ (r : Result (Unit {0}) Refusal). after r d (λ u. last s t)) order
    ∙ ap (λ (r : Result Slot Refusal). after r d (λ t. ordered s t)) target
    ∙ ap (λ (r : Result Slot Refusal). after r d (λ s. after (slot_of d m) d (λ t. ordered s t))) source
    ∙ ap (λ (r : Result (Unit {0}) Refusal). after r d (λ u. after (slot_of d n) d (λ s. after (slot_of d m) d (λ t. ordered s t)))) range
