-- The refusal of a call is the first one that applies.
use Rattle.std.proofs.Common.{◌≡◌, ℕ, ◌&&◌, ◌||◌, nat_lt, not, [], ◌∷◌, Bool, true, false, Option, Some, None, Result, Ok, Err, ℤ, pos, refl, ◌∙◌, if◌then◌else◌}
use Rattle.std.specs.Prelude.{is_some, int_lt}
use Rattle.grids.specs.declared.areas.Area.{Area}
use Rattle.cur_drawing.specs.declared.refusals.Refusal.{Refusal}
use Rattle.cur_drawing.specs.declared.refusals.Refusal.TheVariants.{OutOfWindow, OutOfScreen, PadKind, BadRegion, NumberUsed, Full}
use Rattle.cur_drawing.specs.declared.spans.Span.{Span}
use Rattle.cur_drawing.specs.Calls.{place}
use Rattle.cur_drawing.specs.Refusals.{IsFirstOf, first_refusal}
use Rattle.cur_drawing.specs.Spans.{rectangle, is_negative}
use Rattle.cur_screens.specs.declared.slots.Slot.{Slot}
use Rattle.cur_windows.specs.Copies.{in_order}
use Rattle.cur_windows.specs.Desks.{State, DeskStep, after, slot_of, some_slot, window_at}
use Rattle.cur_windows.specs.Creations.{in_range, free, subwindow_at}
use Rattle.cur_windows.specs.Pads.{pad_added, part_shown}
use Rattle.cur_windows.specs.Refusals.{is_used, slot_is, is_pad, lies_outside}
use Rattle.cur_screens.specs.VirtualScreen.{Screen}
use Rattle.cur_windows.specs.Refreshes.{Refresh, if_shown}
use Rattle.cur_windows.proofs.Ranks.{Answer, first_if, first_free, first_area, part_of_window, shown_if, shown_slot}
use Rattle.cur_pads.specs.Creations as spec
use Rattle.cur_pads.specs.Ranges.{between, from}
use Rattle.cur_pads.specs.Refusals as causes
use Rattle.cur_pads.specs.Refusals.{ends_past}
use Rattle.cur_pads.specs.Displays.{pnoutrefresh, start, done}

both_sides : (d : State) (r c : Option ℕ) (next : ℕ × ℕ → DeskStep) → ((size : ℕ × ℕ) → (next size).1 ≡ Ok tt) →
    (after (spec.both_sides r c) d next).1 ≡ (if not (is_some r && is_some c) then Err BadRegion else Ok tt)
both_sides d (Some r) (Some c) next h = h (r, c)
both_sides d (Some r) None next h = refl
both_sides d None c next h = refl

pub newpad : (d : State) (n : ℕ) (lines cols : ℤ) → IsFirstOf (causes.newpad d n lines cols) (spec.newpad d n lines cols).1
newpad d n lines cols = record {
  order = refl;
  first = first_if d (nat_lt 63 n) Full (if is_used d n then Err NumberUsed else Ok tt) _ _
      (λ low. first_free d n _ _ (both_sides d (spec.side lines) (spec.side cols) (λ size. (pad_added d n size.0 size.1, Ok tt)) (λ size. refl)));
}

after_same : {A : Type 0} (d : State) (r : Result A Refusal) (f g : A → DeskStep) → ((a : A) → (f a).1 ≡ (g a).1) → (after r d f).1 ≡ (after r d g).1
after_same d (Ok a) f g h = h a
after_same d (Err e) f g h = refl

kind_later : (d : State) (r : Result Slot Refusal) (next : Slot → DeskStep) → (after (spec.pad_only d r) d next).1 ≡ (after r d (λ s. after (if is_pad d s then Ok s else Err PadKind) d next)).1
kind_later d (Ok s) next = refl
kind_later d (Err e) next = refl

first_pad : (d : State) (b : Bool) (s : Slot) (next : Slot → DeskStep) (x : Answer) → (next s).1 ≡ x → (after (if b then Ok s else Err PadKind) d next).1 ≡ (if not b then Err PadKind else x)
first_pad d true s next x h = h
first_pad d false s next x h = refl

pub subpad : (d : State) (n w : ℕ) (lines cols y x : ℤ) → IsFirstOf (causes.subpad d n w lines cols y x) (spec.subpad d n w lines cols y x).1
subpad d n w lines cols y x =
    let last : Slot → DeskStep = λ s. subwindow_at d n w s lines cols y x in
    let kind : Slot → DeskStep = λ s. after (if is_pad d s then Ok s else Err PadKind) d last in record {
      order = refl;
      first = after_same d (in_range n w) (λ u. after (free d n) d (λ u. after (spec.pad_of d w) d last)) (λ u. after (free d n) d (λ u. after (slot_of d w) d kind))
          (λ u. after_same d (free d n) (λ u. after (spec.pad_of d w) d last) (λ u. after (slot_of d w) d kind) (λ u. kind_later d (slot_of d w) last))
          ∙ part_of_window d n w kind
          (λ o. first_refusal ((PadKind, slot_is (λ s. not (is_pad d s)) o) ∷ (BadRegion, is_negative lines || is_negative cols)
          ∷ (OutOfWindow, slot_is (λ s. lies_outside s.window.area.rows s.window.area.cols lines cols y x) o) ∷ []))
          (λ s. first_pad d (is_pad d s) s last _ (first_area d s.window.area.rows s.window.area.cols lines cols y x OutOfWindow _ (λ a. refl)));
    }

shown_kind_later : (d : State) (v : Screen) (r : Result Slot Refusal) (next : Slot → Refresh) → (if_shown (spec.pad_only d r) d v next).2 ≡ (if_shown r d v (λ s. if_shown (if is_pad d s then Ok s else Err PadKind) d v next)).2
shown_kind_later d v (Ok s) next = refl
shown_kind_later d v (Err e) next = refl

shown_pad : (d : State) (v : Screen) (b : Bool) (s : Slot) (next : Slot → Refresh) (x : Answer) → (next s).2 ≡ x → (if_shown (if b then Ok s else Err PadKind) d v next).2 ≡ (if not b then Err PadKind else x)
shown_pad d v true s next x h = h
shown_pad d v false s next x h = refl

-- the part of the pad matters only if there is a rectangle of the screen
parts_answer : (d : State) (v : Screen) (r c : Option Span) (f g : ℕ) (height width : ℕ) (last : Area → Area → Refresh) → ((to part : Area) → (last to part).2 ≡ Ok tt) →
    (if_shown (rectangle r c OutOfScreen) d v (λ to. if_shown (rectangle (from f to.rows height) (from g to.cols width) OutOfWindow) d v (λ part. last to part))).2
    ≡ (if not (is_some r && is_some c) then Err OutOfScreen else if ends_past r f height || ends_past c g width then Err OutOfWindow else Ok tt)
parts_answer d v (Some r) (Some c) f g height width last h = within (from f r.size height) (from g c.size width)
  where
    to : Area
    to = record { top = r.at; left = c.at; rows = r.size; cols = c.size }

    within : (a b : Option Span) → (if_shown (rectangle a b OutOfWindow) d v (λ part. last to part)).2 ≡ (if not (is_some a) || not (is_some b) then Err OutOfWindow else Ok tt)
    within (Some a) (Some b) = h to (record { top = a.at; left = b.at; rows = a.size; cols = b.size })
    within (Some a) None = refl
    within None b = refl
parts_answer d v (Some r) None f g height width last h = refl
parts_answer d v None c f g height width last h = refl

pub shown : (d : State) (v : Screen) (n : ℕ) (pr pc sr sc er ec : ℤ) → IsFirstOf (causes.pnoutrefresh d n pr pc sr sc er ec) (pnoutrefresh d v n pr pc sr sc er ec).2
shown d v n pr pc sr sc er ec =
    let rows : Option Span = between (start sr) er d.rows in
    let cols : Option Span = between (start sc) ec d.cols in
    let last : Slot → Area → Area → Refresh = λ s to part. done (part_shown d v n s part (place to.top to.left)) in
    let target : Slot → Refresh = λ s. if_shown (rectangle rows cols OutOfScreen) d v (λ to. if_shown (rectangle (from (start pr) to.rows s.window.area.rows) (from (start pc) to.cols s.window.area.cols) OutOfWindow) d v (λ part. last s to part)) in
    let ordered : Slot → Refresh = λ s. if_shown (in_order (pos (start sr)) er (pos (start sc)) ec) d v (λ u. target s) in
    let kind : Slot → Refresh = λ s. if_shown (if is_pad d s then Ok s else Err PadKind) d v ordered in record {
      order = refl;
      first = shown_kind_later d v (slot_of d n) ordered
          ∙ shown_if d v (nat_lt 63 n) Full (some_slot (window_at d n)) kind _ (λ low. shown_slot d v (window_at d n) kind
          (λ o. first_refusal ((PadKind, slot_is (λ s. not (is_pad d s)) o) ∷ (BadRegion, int_lt er (pos (start sr)) || int_lt ec (pos (start sc))) ∷ (OutOfScreen, not (is_some rows && is_some cols))
          ∷ (OutOfWindow, slot_is (λ s. ends_past rows (start pr) s.window.area.rows || ends_past cols (start pc) s.window.area.cols) o) ∷ []))
          (λ s. shown_pad d v (is_pad d s) s ordered _ (shown_if d v (int_lt er (pos (start sr)) || int_lt ec (pos (start sc))) BadRegion (Ok tt) (λ u. target s) _
          (λ order. parts_answer d v rows cols (start pr) (start pc) s.window.area.rows s.window.area.cols (last s) (λ to part. refl)))));
    }
