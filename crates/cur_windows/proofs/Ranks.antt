-- The refusal of a call is the first one that applies.
use Rattle.std.proofs.Common.{◌≡◌, ℕ, ◌+◌, zero, suc, ◌==◌, ◌&&◌, ◌||◌, nat_lt, nat_le, not, [], ◌∷◌, Bool, true, false, Option, Some, None, Result, Ok, Err, ℤ, pos, refl, ap, ◌∙◌, if◌then◌else◌}
use Rattle.std.specs.Prelude.{is_some, is_ok, int_lt, bit_xor, ◌-ℤ◌}
use Rattle.grids.specs.declared.areas.Area.{Area}
use Rattle.cur_drawing.specs.declared.puts.Put.{Put}
use Rattle.cur_drawing.specs.declared.puts.Border.{Border}
use Rattle.cur_drawing.specs.declared.refusals.Refusal.{Refusal}
use Rattle.cur_drawing.specs.declared.refusals.Refusal.TheVariants.{NoWindow, OutOfWindow, OutOfScreen, HasChildren, IsSub, PadKind, NoScroll, BadRegion, NumberUsed, BadCell, Full, IsScreen, BadPair}
use Rattle.cur_drawing.specs.declared.spans.Span.{Span}
use Rattle.cur_drawing.specs.declared.windows.Window.{Window}
use Rattle.cur_drawing.specs.Calls as calls
use Rattle.cur_drawing.specs.Calls.{Canvas, CanvasStep, canvas}
use Rattle.cur_drawing.specs.Grids.{filled}
use Rattle.cur_drawing.specs.Refusals.{IsFirstOf, first_refusal}
use Rattle.cur_drawing.specs.Spans.{rectangle, span_within, is_negative, start_within, matched}
use Rattle.cur_drawing.specs.Windows as window_calls
use Rattle.cur_drawing.specs.Windows.{WindowStep, cells_of, content, checked, is_printed, is_pair, place_below, as_is}
use Rattle.cur_drawing.specs.declared.spans.CopySpan.{CopySpan}
use Rattle.cur_screens.specs.declared.slots.Slot.{Slot}
use Rattle.cur_windows.specs.Copies as copying
use Rattle.cur_windows.specs.Desks as desks
use Rattle.cur_windows.specs.Desks.{State, DeskStep, after, slot_of, some_slot, window_at, grid_at, origin_at}
use Rattle.cur_windows.specs.Creations as making
use Rattle.cur_windows.specs.Creations.{is_some_slot, corner, has_child}
use Rattle.cur_windows.specs.Refusals as causes
use Rattle.cur_windows.specs.Refusals.{is_past_last, is_used, slot_is, slots_are, is_pad, lies_outside, moves_outside, in_turn, lacks_lines, border_printed, border_pairs, cannot_advance}
use Rattle.cur_windows.specs.Refreshes as refreshes
use Rattle.cur_screens.specs.VirtualScreen.{Screen}
use Rattle.cur_windows.specs.Refreshes.{Refresh, if_shown}

abbrev pub Answer : Type 0
Answer = Result (Unit {0}) Refusal

pub first_if : {A : Type 0} (d : State) (b : Bool) (e : Refusal) (r : Result A Refusal) (next : A → DeskStep) (x : Answer) → (b ≡ false → (after r d next).1 ≡ x) →
    (after (if b then Err e else r) d next).1 ≡ (if b then Err e else x)
first_if d true e r next x p = refl
first_if d false e r next x p = p refl

skip_if : {A : Type 0} (d : State) (b : Bool) (e : Refusal) (r : Result A Refusal) (next : A → DeskStep) (x : Answer) → b ≡ false → (after r d next).1 ≡ x → (after (if b then Err e else r) d next).1 ≡ x
skip_if d true e r next x h p = absurd cc
skip_if d false e r next x h p = p

first_slot : (d : State) (o : Option Slot) (next : Slot → DeskStep) (later : Option Slot → Answer) → ((s : Slot) → (next s).1 ≡ later (Some s)) →
    (after (some_slot o) d next).1 ≡ (if not (is_some_slot o) then Err NoWindow else later o)
first_slot d (Some s) next later p = p s
first_slot d None next later p = refl

or_left : (p q : Bool) → (p || q) ≡ false → p ≡ false
or_left true q h = absurd cc
or_left false q h = refl

or_right : (p q : Bool) → (p || q) ≡ false → q ≡ false
or_right true q h = absurd cc
or_right false q h = h

low_slot : (d : State) (n : ℕ) → nat_lt 63 n ≡ false → slot_of d n ≡ some_slot (window_at d n)
low_slot d n low = ap (λ (b : Bool). if b then Err Full else some_slot (window_at d n)) low

-- a call on one window
on_any : (d : State) (n : ℕ) (next : Slot → DeskStep) (later : Option Slot → Answer) → ((s : Slot) → (next s).1 ≡ later (Some s)) →
    (after (slot_of d n) d next).1 ≡ (if nat_lt 63 n then Err Full else if not (is_used d n) then Err NoWindow else later (window_at d n))
on_any d n next later p = first_if d (nat_lt 63 n) Full (some_slot (window_at d n)) next _ (λ low. first_slot d (window_at d n) next later p)

first_rectangle : (d : State) (v h : Option Span) (e : Refusal) (next : Area → DeskStep) → ((a : Area) → (next a).1 ≡ Ok tt) →
    (after (rectangle v h e) d next).1 ≡ (if not (is_some v && is_some h) then Err e else Ok tt)
first_rectangle d (Some v) (Some h) e next p = p (record { top = v.at; left = h.at; rows = v.size; cols = h.size })
first_rectangle d (Some v) None e next p = refl
first_rectangle d None h e next p = refl

pub first_area : (d : State) (height width : ℕ) (lines cols y x : ℤ) (e : Refusal) (next : Area → DeskStep) → ((a : Area) → (next a).1 ≡ Ok tt) →
    (after (if is_negative lines || is_negative cols then Err BadRegion else rectangle (span_within lines y height) (span_within cols x width) e) d next).1
    ≡ (if is_negative lines || is_negative cols then Err BadRegion else if lies_outside height width lines cols y x then Err e else Ok tt)
first_area d height width lines cols y x e next p =
    first_if d (is_negative lines || is_negative cols) BadRegion (rectangle (span_within lines y height) (span_within cols x width) e) next _
    (λ sized. first_rectangle d (span_within lines y height) (span_within cols x width) e next p)

pub first_free : (d : State) (n : ℕ) (next : Unit {0} → DeskStep) (x : Answer) → (next tt).1 ≡ x →
    (after (if is_used d n then Err NumberUsed else Ok tt) d next).1 ≡ (if is_used d n then Err NumberUsed else x)
first_free d n next x p = first_if d (is_used d n) NumberUsed (Ok tt) next x (λ unused. p)

pub newwin : (d : State) (n : ℕ) (lines cols y x : ℤ) → IsFirstOf (causes.newwin d n lines cols y x) (making.newwin d n lines cols y x).1
newwin d n lines cols y x = record {
  order = refl;
  first = first_if d (nat_lt 63 n) Full (if is_used d n then Err NumberUsed else Ok tt) _ _ (λ low. first_free d n _ _ (first_area d d.rows d.cols lines cols y x OutOfScreen _ (λ a. refl)));
}

-- two numbers, the first of which must be free, and the second a window's
pub part_of_window : (d : State) (n w : ℕ) (next : Slot → DeskStep) (later : Option Slot → Answer) → ((s : Slot) → (next s).1 ≡ later (Some s)) →
    (after (making.in_range n w) d (λ u. after (making.free d n) d (λ u. after (slot_of d w) d next))).1
    ≡ (if is_past_last n || is_past_last w then Err Full else if is_used d n then Err NumberUsed else if not (is_used d w) then Err NoWindow else later (window_at d w))
part_of_window d n w next later p =
    first_if d (is_past_last n || is_past_last w) Full (Ok tt) (λ u. after (making.free d n) d (λ u. after (slot_of d w) d next)) _
    (λ low. skip_if d (is_past_last n) Full (if is_used d n then Err NumberUsed else Ok tt) (λ u. after (slot_of d w) d next) _ (or_left (is_past_last n) (is_past_last w) low)
    (first_free d n (λ u. after (slot_of d w) d next) _
    (skip_if d (is_past_last w) Full (some_slot (window_at d w)) next _ (or_right (is_past_last n) (is_past_last w) low) (first_slot d (window_at d w) next later p))))

first_kind : (d : State) (s : Slot) (next : Unit {0} → DeskStep) (x : Answer) → (next tt).1 ≡ x → (after (making.window_only d s) d next).1 ≡ (if is_pad d s then Err PadKind else x)
first_kind d s next x p = first_if d (is_pad d s) PadKind (Ok tt) next x (λ window. p)

pub derwin : (d : State) (n w : ℕ) (lines cols y x : ℤ) → IsFirstOf (causes.derwin d n w lines cols y x) (making.derwin d n w lines cols y x).1
derwin d n w lines cols y x = record {
  order = refl;
  first = part_of_window d n w (λ s. after (making.window_only d s) d (λ u. making.subwindow_at d n w s lines cols y x))
      (λ o. first_refusal ((PadKind, slot_is (is_pad d) o) ∷ (BadRegion, is_negative lines || is_negative cols)
      ∷ (OutOfWindow, slot_is (λ s. lies_outside s.window.area.rows s.window.area.cols lines cols y x) o) ∷ []))
      (λ s. first_kind d s (λ u. making.subwindow_at d n w s lines cols y x) _ (first_area d s.window.area.rows s.window.area.cols lines cols y x OutOfWindow _ (λ a. refl)));
}

pub subwin : (d : State) (n w : ℕ) (lines cols y x : ℤ) → IsFirstOf (causes.subwin d n w lines cols y x) (making.subwin d n w lines cols y x).1
subwin d n w lines cols y x =
    let row : Slot → ℤ = λ s. y -ℤ pos (corner d s).0 in
    let col : Slot → ℤ = λ s. x -ℤ pos (corner d s).1 in record {
      order = refl;
      first = part_of_window d n w (λ s. after (making.window_only d s) d (λ u. making.subwindow_at d n w s lines cols (row s) (col s)))
          (λ o. first_refusal ((PadKind, slot_is (is_pad d) o) ∷ (BadRegion, is_negative lines || is_negative cols)
          ∷ (OutOfWindow, slot_is (λ s. lies_outside s.window.area.rows s.window.area.cols lines cols (row s) (col s)) o) ∷ []))
          (λ s. first_kind d s (λ u. making.subwindow_at d n w s lines cols (row s) (col s)) _ (first_area d s.window.area.rows s.window.area.cols lines cols (row s) (col s) OutOfWindow _ (λ a. refl)));
    }

pub dupwin : (d : State) (n w : ℕ) → IsFirstOf (causes.dupwin d n w) (making.dupwin d n w).1
dupwin d n w = record {
  order = refl;
  first = part_of_window d n w _ (λ o. Ok tt) (λ s. refl);
}

pub delwin : (d : State) (n : ℕ) → IsFirstOf (causes.delwin d n) (making.delwin d n).1
delwin d n = record {
  order = refl;
  first = on_any d n _ (λ o. first_refusal ((IsScreen, n == 0) ∷ (HasChildren, has_child n 0 d.windows) ∷ []))
      (λ s. first_if d (n == 0) IsScreen (if has_child n 0 d.windows then Err HasChildren else Ok tt) _ _
      (λ other. first_if d (has_child n 0 d.windows) HasChildren (Ok tt) _ (Ok tt) (λ none. refl)));
}

first_own : (d : State) (o : Option ℕ) (next : Unit {0} → DeskStep) (x : Answer) → (next tt).1 ≡ x → (after (making.no_sub o) d next).1 ≡ (if is_some o then Err IsSub else x)
first_own d (Some p) next x h = refl
first_own d None next x h = h

moved_answer : (d : State) (s : Slot) (y x : Option ℕ) → (making.moved d s y x).1 ≡ (if not (is_some y && is_some x) then Err OutOfScreen else Ok tt)
moved_answer d s (Some y) (Some x) = refl
moved_answer d s (Some y) None = refl
moved_answer d s None x = refl

pub mvwin : (d : State) (n : ℕ) (y x : ℤ) → IsFirstOf (causes.mvwin d n y x) (making.mvwin d n y x).1
mvwin d n y x = record {
  order = refl;
  first = on_any d n _ (λ o. first_refusal ((PadKind, slot_is (is_pad d) o) ∷ (IsSub, slot_is (λ s. is_some s.parent) o) ∷ (OutOfScreen, slot_is (moves_outside d y x) o) ∷ []))
      (λ s. first_kind d s _ _ (first_own d s.parent _ _ (moved_answer d s (start_within y s.window.area.rows d.rows) (start_within x s.window.area.cols d.cols))));
}

-- ---- copying
two_slots : (d : State) (o p : Option Slot) (next : Slot → Slot → DeskStep) (later : Option Slot → Option Slot → Answer) → ((s t : Slot) → (next s t).1 ≡ later (Some s) (Some t)) →
    (after (some_slot o) d (λ s. after (some_slot p) d (λ t. next s t))).1 ≡ (if not (is_some_slot o && is_some_slot p) then Err NoWindow else later o p)
two_slots d (Some s) (Some t) next later h = h s t
two_slots d (Some s) None next later h = refl
two_slots d None p next later h = refl

on_two : (d : State) (n m : ℕ) (next : Slot → Slot → DeskStep) (later : Option Slot → Option Slot → Answer) → ((s t : Slot) → (next s t).1 ≡ later (Some s) (Some t)) →
    (after (making.in_range n m) d (λ u. after (slot_of d n) d (λ s. after (slot_of d m) d (λ t. next s t)))).1
    ≡ (if is_past_last n || is_past_last m then Err Full else if not (is_used d n && is_used d m) then Err NoWindow else later (window_at d n) (window_at d m))
on_two d n m next later p =
    first_if d (is_past_last n || is_past_last m) Full (Ok tt) (λ u. after (slot_of d n) d (λ s. after (slot_of d m) d (λ t. next s t))) _
    (λ low. ap (λ (r : Result Slot Refusal). (after r d (λ s. after (slot_of d m) d (λ t. next s t))).1) (low_slot d n (or_left (is_past_last n) (is_past_last m) low))
    ∙ ap (λ (r : Result Slot Refusal). (after (some_slot (window_at d n)) d (λ s. after r d (λ t. next s t))).1) (low_slot d m (or_right (is_past_last n) (is_past_last m) low))
    ∙ two_slots d (window_at d n) (window_at d m) next later p)

either_pad : (d : State) (p q : Bool) (next : DeskStep) (x : Answer) → next.1 ≡ x →
    (after (if p then Err PadKind else Ok tt) d (λ (u : Unit {0}). after (if q then Err PadKind else Ok tt) d (λ (u : Unit {0}). next))).1 ≡ (if p || q then Err PadKind else x)
either_pad d true q next x h = refl
either_pad d false true next x h = refl
either_pad d false false next x h = h

copied_always : (d : State) (s t : Slot) (skip : Bool) (r c : Option CopySpan) → (copying.copied_or (Ok tt) d s t skip r c).1 ≡ Ok tt
copied_always d s t skip (Some r) (Some c) = refl
copied_always d s t skip (Some r) None = refl
copied_always d s t skip None c = refl

copied_answer : (d : State) (s t : Slot) (skip : Bool) (r c : Option CopySpan) → (copying.copied_or (Err OutOfWindow) d s t skip r c).1 ≡ (if not (is_some r && is_some c) then Err OutOfWindow else Ok tt)
copied_answer d s t skip (Some r) (Some c) = refl
copied_answer d s t skip (Some r) None = refl
copied_answer d s t skip None c = refl

pub overlay : (d : State) (skip : Bool) (n m : ℕ) → IsFirstOf (causes.overlay d n m) (copying.common_part skip d n m).1
overlay d skip n m = record {
  order = refl;
  first = on_two d n m (λ s t. after (making.window_only d s) d (λ u. after (making.window_only d t) d (λ u. copying.common_copied d s t skip)))
      (λ o p. first_refusal ((PadKind, slot_is (is_pad d) o || slot_is (is_pad d) p) ∷ []))
      (λ s t. either_pad d (is_pad d s) (is_pad d t) (copying.common_copied d s t skip) (Ok tt) (copied_always d s t skip _ _));
}

pub copywin : (d : State) (n m : ℕ) (sr sc dr dc er ec : ℤ) (skip : Bool) → IsFirstOf (causes.copywin d n m sr sc dr dc er ec) (copying.copywin d n m sr sc dr dc er ec skip).1
copywin d n m sr sc dr dc er ec skip =
    let rows : Slot → Slot → Option CopySpan = λ s t. matched sr dr er s.window.area.rows t.window.area.rows in
    let cols : Slot → Slot → Option CopySpan = λ s t. matched sc dc ec s.window.area.cols t.window.area.cols in record {
      order = refl;
      first = on_two d n m (λ s t. after (copying.in_order dr er dc ec) d (λ u. copying.copied_or (Err OutOfWindow) d s t skip (rows s t) (cols s t)))
          (λ o p. first_refusal ((BadRegion, int_lt er dr || int_lt ec dc) ∷ (OutOfWindow, slots_are (λ s t. not (is_some (rows s t) && is_some (cols s t))) o p) ∷ []))
          (λ s t. first_if d (int_lt er dr || int_lt ec dc) BadRegion (Ok tt) (λ u. copying.copied_or (Err OutOfWindow) d s t skip (rows s t) (cols s t)) _ (λ order. copied_answer d s t skip (rows s t) (cols s t)));
    }

pub shown_if : {A : Type 0} (d : State) (v : Screen) (b : Bool) (e : Refusal) (r : Result A Refusal) (next : A → Refresh) (x : Answer) → (b ≡ false → (if_shown r d v next).2 ≡ x) →
    (if_shown (if b then Err e else r) d v next).2 ≡ (if b then Err e else x)
shown_if d v true e r next x p = refl
shown_if d v false e r next x p = p refl

pub shown_slot : (d : State) (v : Screen) (o : Option Slot) (next : Slot → Refresh) (later : Option Slot → Answer) → ((s : Slot) → (next s).2 ≡ later (Some s)) →
    (if_shown (some_slot o) d v next).2 ≡ (if not (is_some_slot o) then Err NoWindow else later o)
shown_slot d v (Some s) next later p = p s
shown_slot d v None next later p = refl

pub noutrefresh : (d : State) (v : Screen) (n : ℕ) → IsFirstOf (causes.noutrefresh d n) (refreshes.noutrefresh d v n).2
noutrefresh d v n = record {
  order = refl;
  first = shown_if d v (nat_lt 63 n) Full (some_slot (window_at d n)) _ _ (λ low. shown_slot d v (window_at d n) _ (λ o. first_refusal ((PadKind, slot_is (is_pad d) o) ∷ []))
      (λ s. shown_if d v (is_pad d s) PadKind (Ok tt) _ (Ok tt) (λ window. refl)));
}

either_lines : (b : Bool) (d : State) (v : Screen) (part : Area) (next : Area → Refresh) (x : Answer) → (next part).2 ≡ x →
    (if_shown (if b then Ok part else Err BadRegion) d v next).2 ≡ (if not b then Err BadRegion else x)
either_lines true d v part next x p = p
either_lines false d v part next x p = refl

shown_lines : (d : State) (v : Screen) (t b : Option ℕ) (a : Area) (next : Area → Refresh) (x : Answer) → ((part : Area) → (next part).2 ≡ x) →
    (if_shown (refreshes.lines_between t b a) d v next).2 ≡ (if not (in_turn t b) then Err BadRegion else x)
shown_lines d v (Some t) (Some b) a next x p = either_lines (nat_le t b) d v _ next x (p _)
shown_lines d v (Some t) None a next x p = refl
shown_lines d v None b a next x p = refl

pub noutrefresh_lines : (d : State) (v : Screen) (n : ℕ) (t b : ℤ) → IsFirstOf (causes.noutrefresh_lines d n t b) (refreshes.noutrefresh_lines d v n t b).2
noutrefresh_lines d v n t b = record {
  order = refl;
  first = shown_if d v (nat_lt 63 n) Full (some_slot (window_at d n)) _ _ (λ low. shown_slot d v (window_at d n) _
      (λ o. first_refusal ((PadKind, slot_is (is_pad d) o) ∷ (BadRegion, slot_is (lacks_lines t b) o) ∷ []))
      (λ s. shown_if d v (is_pad d s) PadKind (Ok tt) _ _ (λ window.
      shown_lines d v (place_below t s.window.area.rows) (place_below b s.window.area.rows) s.window.area _ (Ok tt) (λ part. refl))));
}

-- ---- calls on one window
moved_cursor : (y x : Option ℕ) (w : Window) → (window_calls.moved y x w).1 ≡ (if not (is_some y && is_some x) then Err OutOfWindow else Ok tt)
moved_cursor (Some y) (Some x) w = refl
moved_cursor (Some y) None w = refl
moved_cursor None x w = refl

pub move_to : (d : State) (n : ℕ) (y x : ℤ) → IsFirstOf (causes.move_to d n y x) (desks.on_cursor d n (window_calls.move_to y x)).1
move_to d n y x = record {
  order = refl;
  first = on_any d n _ (λ o. first_refusal ((OutOfWindow, slot_is (λ s. not (is_some (place_below y s.window.area.rows) && is_some (place_below x s.window.area.cols))) o) ∷ []))
      (λ s. moved_cursor (place_below y s.window.area.rows) (place_below x s.window.area.cols) s.window);
}

abbrev region_step : Bool → Window → Window → WindowStep
region_step b v w = if b then (v, Ok tt) else (w, Err BadRegion)

either_region : (b : Bool) (v w : Window) → (region_step b v w).1 ≡ (if not b then Err BadRegion else Ok tt)
either_region true v w = refl
either_region false v w = refl

bounded_region : (t b : Option ℕ) (w : Window) → (window_calls.bounded t b w).1 ≡ (if not (in_turn t b) then Err BadRegion else Ok tt)
bounded_region (Some t) (Some b) w = either_region (nat_le t b) (record w { region_top = t; region_bottom = b }) w
bounded_region (Some t) None w = refl
bounded_region None b w = refl

pub set_region : (d : State) (n : ℕ) (t b : ℤ) → IsFirstOf (causes.setscrreg d n t b) (desks.on_cursor d n (window_calls.set_region t b)).1
set_region d n t b = record {
  order = refl;
  first = on_any d n _ (λ o. first_refusal ((BadRegion, slot_is (λ s. not (in_turn (place_below t s.window.area.rows) (place_below b s.window.area.rows))) o) ∷ []))
      (λ s. bounded_region (place_below t s.window.area.rows) (place_below b s.window.area.rows) s.window);
}

pair_set : (p : Option ℕ) (w : Window) → (window_calls.paired p w).1 ≡ (if not (is_some p) then Err BadPair else Ok tt)
pair_set (Some p) w = refl
pair_set None w = refl

pub set_pair : (d : State) (n : ℕ) (p : ℤ) → IsFirstOf (causes.color_set d n p) (desks.on_cursor d n (window_calls.set_pair p)).1
set_pair d n p = record {
  order = refl;
  first = on_any d n _ (λ o. first_refusal ((BadPair, not (is_some (place_below p 64))) ∷ [])) (λ s. pair_set (place_below p 64) s.window);
}

cell_set : (a b : Bool) (w v : Window) → (window_calls.if_ok (checked a b) w v).1 ≡ (if not a then Err BadCell else if not b then Err BadPair else Ok tt)
cell_set true true w v = refl
cell_set true false w v = refl
cell_set false b w v = refl

pub set_background : (d : State) (n : ℕ) (p : Put) → IsFirstOf (causes.with_cell d n p) (desks.on_cursor d n (window_calls.set_background p)).1
set_background d n p = record {
  order = refl;
  first = on_any d n _ (λ o. first_refusal ((BadCell, not (is_printed p.byte)) ∷ (BadPair, not (is_pair p.pair)) ∷ [])) (λ s. cell_set (is_printed p.byte) (is_pair p.pair) s.window _);
}

pub option : (d : State) (n : ℕ) (change : Window → Window) → IsFirstOf (causes.any_window d n) (desks.set d n change).1
option d n change = record { order = refl; first = on_any d n _ (λ o. Ok tt) (λ s. refl) }

pub unchanged : (d : State) (n : ℕ) → IsFirstOf (causes.any_window d n) (desks.unchanged d n).1
unchanged d n = record { order = refl; first = on_any d n _ (λ o. Ok tt) (λ s. refl) }

accepted_step : (a b : Bool) (s : Canvas) (rest : CanvasStep) (x : Answer) → rest.1 ≡ x → (calls.if_accepted (checked a b) s rest).1 ≡ (if not a then Err BadCell else if not b then Err BadPair else x)
accepted_step true true s rest x h = h
accepted_step true false s rest x h = refl
accepted_step false b s rest x h = refl

cell_accepted : (a b : Bool) (s : Canvas) (rest : CanvasStep) → rest.1 ≡ Ok tt → (calls.if_accepted (checked a b) s rest).1 ≡ (if not a then Err BadCell else if not b then Err BadPair else Ok tt)
cell_accepted a b s rest h = accepted_step a b s rest (Ok tt) h

abbrev LooksAtCell : Put → (Canvas → CanvasStep) → Type 0
LooksAtCell p act = (s : Canvas) → (act s).1 ≡ (if not (is_printed p.byte) then Err BadCell else if not (is_pair p.pair) then Err BadPair else Ok tt)

on_grid_with : (d : State) (n : ℕ) (p : Put) (act : Canvas → CanvasStep) → LooksAtCell p act → IsFirstOf (causes.with_cell d n p) (desks.on_grid d n act).1
on_grid_with d n p act h = record {
  order = refl;
  first = on_any d n _ (λ o. first_refusal ((BadCell, not (is_printed p.byte)) ∷ (BadPair, not (is_pair p.pair)) ∷ [])) (λ s. h (canvas (grid_at d s.root) s.window));
}

pub insert_char : (d : State) (n : ℕ) (p : Put) → IsFirstOf (causes.with_cell d n p) (desks.on_grid d n (calls.insert_char p)).1
insert_char d n p = on_grid_with d n p (calls.insert_char p) (λ s. cell_accepted (is_printed p.byte) (is_pair p.pair) s _ refl)

pub horizontal : (d : State) (n : ℕ) (p : Put) (count : ℤ) → IsFirstOf (causes.with_cell d n p) (desks.on_grid d n (calls.horizontal p count)).1
horizontal d n p count = on_grid_with d n p (calls.horizontal p count) (λ s. cell_accepted (is_printed p.byte) (is_pair p.pair) s _ refl)

pub vertical : (d : State) (n : ℕ) (p : Put) (count : ℤ) → IsFirstOf (causes.with_cell d n p) (desks.on_grid d n (calls.vertical p count)).1
vertical d n p count = on_grid_with d n p (calls.vertical p count) (λ s. cell_accepted (is_printed p.byte) (is_pair p.pair) s _ refl)

pub change_background : (d : State) (n : ℕ) (p : Put) → IsFirstOf (causes.with_cell d n p) (desks.on_window d n (calls.change_background p)).1
change_background d n p = record {
  order = refl;
  first = on_any d n _ (λ o. first_refusal ((BadCell, not (is_printed p.byte)) ∷ (BadPair, not (is_pair p.pair)) ∷ [])) (λ s. cell_accepted (is_printed p.byte) (is_pair p.pair) (canvas (grid_at d s.root) s.window) _ refl);
}

abbrev scroll_step : Bool → Canvas → Canvas → CanvasStep
scroll_step b s t = if b then (t, Ok tt) else (s, Err NoScroll)

may_scroll : (b : Bool) (s t : Canvas) → (scroll_step b s t).1 ≡ (if not b then Err NoScroll else Ok tt)
may_scroll true s t = refl
may_scroll false s t = refl

pub scroll_by : (d : State) (n : ℕ) (count : ℤ) → IsFirstOf (causes.scroll d n) (desks.on_grid d n (calls.scroll_by count)).1
scroll_by d n count = record {
  order = refl;
  first = on_any d n _ (λ o. first_refusal ((NoScroll, slot_is (λ s. not s.window.scrolls) o) ∷ [])) (λ s. may_scroll s.window.scrolls (canvas (grid_at d s.root) s.window) _);
}

-- calls that take every window
pub on_window : (d : State) (n : ℕ) (act : Canvas → CanvasStep) → ((s : Canvas) → (act s).1 ≡ Ok tt) → IsFirstOf (causes.any_window d n) (desks.on_window d n act).1
on_window d n act h = record { order = refl; first = on_any d n _ (λ o. Ok tt) (λ s. h (canvas (grid_at d s.root) s.window)) }

pub on_grid : (d : State) (n : ℕ) (act : Canvas → CanvasStep) → ((s : Canvas) → (act s).1 ≡ Ok tt) → IsFirstOf (causes.any_window d n) (desks.on_grid d n act).1
on_grid d n act h = record { order = refl; first = on_any d n _ (λ o. Ok tt) (λ s. h (canvas (grid_at d s.root) s.window)) }

pub bordered : (d : State) (n : ℕ) (b : Border) → IsFirstOf (causes.border d n b) (desks.on_grid d n (calls.bordered b)).1
bordered d n b = record {
  order = refl;
  first = on_any d n _ (λ o. first_refusal ((BadCell, not (border_printed b)) ∷ (BadPair, not (border_pairs b)) ∷ []))
      (λ s. cell_accepted (border_printed b) (border_pairs b) (canvas (grid_at d s.root) s.window) _ refl);
}

-- ---- a character is refused only if the window may not scroll
record OnlyNoScroll (x : CanvasStep) : Type 0 where
  only : (e : Refusal) → x.1 ≡ Err e → e ≡ NoScroll

only_if : (b : Bool) (x y : CanvasStep) → OnlyNoScroll x → OnlyNoScroll y → OnlyNoScroll (if b then x else y)
only_if true x y p q = p
only_if false x y p q = q

only_done : (s : Canvas) → OnlyNoScroll (s, Ok tt)
only_done s = record { only = λ e h. absurd cc }

only_stuck : (s : Canvas) → OnlyNoScroll (s, Err NoScroll)
only_stuck s = record { only = λ e h. cc }

only_then : (x : CanvasStep) (next : Canvas → CanvasStep) → OnlyNoScroll x → ((t : Canvas) → OnlyNoScroll (next t)) → OnlyNoScroll (calls.and_then x next)
only_then (s, Ok u) next p q = q s
only_then (s, Err e) next p q = p

only_advanced : (s : Canvas) → OnlyNoScroll (calls.advanced s)
only_advanced s = only_if (s.window.scrolls && (s.window.row == s.window.region_bottom)) _ _ (only_done _)
    (only_if ((s.window.row + 1) == s.window.area.rows) _ _ (only_stuck s) (only_done _))

only_written : (p : Put) (s : Canvas) → OnlyNoScroll (calls.written p s)
only_written p s =
    let t : Canvas = canvas (filled (cells_of s.window s.window.row s.window.col 1) (content s.window p) s.grid) s.window in
    only_if (nat_lt (s.window.col + 1) s.window.area.cols) _ _ (only_done (canvas t.grid (record s.window { col = s.window.col + 1 }))) (only_advanced t)

only_times : (n : ℕ) (p : Put) (s : Canvas) → OnlyNoScroll (calls.written_times n p s)
only_times zero p s = only_done s
only_times (suc n) p s = only_then (calls.written p s) (λ t. calls.written_times n p t) (only_written p s) (λ t. only_times n p t)

only_character : (p : Put) (s : Canvas) → OnlyNoScroll (calls.character p s)
only_character p s =
    only_if (p.byte == 10) _ _ (only_advanced (canvas (calls.line_cleared s.window s.grid) s.window))
    (only_if (p.byte == 9) _ _ (only_times (calls.tab_width s.window) (record p { byte = 32 }) s)
    (only_if (p.byte == 8) _ _ (only_done _)
    (only_if (p.byte == 13) _ _ (only_done _)
    (only_if (nat_lt p.byte 32 || (p.byte == 127)) _ _
    (only_then (calls.written (record p { byte = 94 }) s) (λ t. calls.written (record p { byte = bit_xor p.byte 64 }) t) (only_written (record p { byte = 94 }) s) (λ t. only_written (record p { byte = bit_xor p.byte 64 }) t))
    (only_written p s)))))

no_other : (r : Answer) → ((e : Refusal) → r ≡ Err e → e ≡ NoScroll) → r ≡ (if not (is_ok r) then Err NoScroll else Ok tt)
no_other (Ok u) p = refl
no_other (Err e) p = ap (λ (x : Refusal). Err x) (p e refl)

pub added : (d : State) (n : ℕ) (p : Put) → IsFirstOf (causes.addch d n p) (desks.on_window d n (calls.added p)).1
added d n p = record {
  order = refl;
  first = on_any d n _ (λ o. first_refusal ((BadCell, not (nat_lt p.byte 128)) ∷ (BadPair, not (is_pair p.pair)) ∷ (NoScroll, slot_is (cannot_advance d p) o) ∷ []))
      (λ s. accepted_step (nat_lt p.byte 128) (is_pair p.pair) (canvas (grid_at d s.root) s.window) _ _
      (no_other (calls.character p (canvas (grid_at d s.root) s.window)).1 (only_character p (canvas (grid_at d s.root) s.window)).only));
}
