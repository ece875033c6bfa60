-- States that agree with a belief, and the screens they show.
use Rattle.std.proofs.Common.{◌≡◌, ℕ, Bool, true, List, Option, Some, None, is_some, refl, sym, ap, subst, ◌∙◌, arith}
use Rattle.vt_term.specs.Screen.{State, is_graphic}
use Rattle.cur_steps.specs.declared.beliefs.Belief.{Belief}
use Rattle.cur_steps.specs.declared.beliefs.Place.{Place}
use Rattle.cur_steps.specs.declared.beliefs.Mode.{Mode}
use Rattle.cur_steps.specs.declared.inks.Ink.{Ink}
use Rattle.ti_conforms.specs.Certified.{Table, IsBlank}
use Rattle.cur_steps.specs.Inks.{blank_ink, plain_brush, rendition_of}
use Rattle.cur_steps.specs.declared.inks.Brush.{Brush}
use Rattle.cur_steps.specs.Beliefs.{Agrees, IsHere, IsSeen, IsSo, is_shown}
use Rattle.cur_steps.proofs.Turns.{calmly, stands_at}
use Rattle.cur_paint.specs.Limits.{IsCursor, IsPlaced, IsWithin}
use Rattle.cur_paint.specs.Cleared.{at_start}
use Rattle.cur_paint.specs.Rests.{HasNoWrap, IsAt, IsPlain, IsRested, cursor_of, rested}
use Rattle.cur_paint.specs.Update.{Shows}
use Rattle.cur_paint.specs.declared.updates.Wanted.{Wanted}

pub record IsThere (o : Option (List ℕ)) : Type 0 where
  pub bytes : List ℕ
  pub is : o ≡ Some bytes

pub there : (o : Option (List ℕ)) → is_some o ≡ true → IsThere o
there None e = absurd (cc)
there (Some x) e = record { bytes = x; is = refl }

cursor_at : (cols : ℕ) (cursor : Option Place) (now : Place) (row col : ℕ) (pending : Bool) → IsPlaced cols cursor now → IsHere cols now row col pending → IsCursor cursor row col
cursor_at cols None now row col pending e h = tt
cursor_at cols (Some p) now row col pending e h = (h.0 ∙ e.0, h.1 ∙ e.1)

pub agrees_shows : (t : Table) (g : ℕ → ℕ → Ink) (b : Belief) (w : Wanted) → IsPlaced t.cols w.cursor b.place → b.mode ≡ Some w.mode → (s : State) → Agrees t g b s → Shows t g w s
agrees_shows t g b w e f s h = record {
  closed = h.ready.rest;
  cells = h.cells;
  cursor = cursor_at t.cols w.cursor b.place s.screen.row s.screen.col s.screen.pending e h.place;
  visible = seen_so w.mode s.screen.visible f h.seen;
}
  where
    seen_so : (m : Mode) (v : Bool) → b.mode ≡ Some m → IsSeen b.mode v → v ≡ is_shown m
    seen_so m v e h = subst (λ (o : Option Mode). IsSeen o v) e h

-- ---- the state beside the cells

pub agrees_plain : (t : Table) (g : ℕ → ℕ → Ink) (b : Belief) → IsRested b → (s : State) → Agrees t g b s → IsPlain s
agrees_plain t g b r s h = record {
  rendition = h.brush ∙ ap (λ (x : Brush). rendition_of t.looks x) r.brush;
  set = subst (λ (o : Option Bool). IsSo o (is_graphic s.screen.charset)) r.set h.set;
}

pub no_wrap : (t : Table) (g : ℕ → ℕ → Ink) (b : Belief) (cursor : Option Place) → IsWithin t cursor → IsAt cursor b.place → (s : State) → Agrees t g b s → HasNoWrap cursor s.screen.pending
no_wrap t g b None w e s h = tt
no_wrap t g b (Some p) w e s h =
    let so : IsHere t.cols p s.screen.row s.screen.col s.screen.pending = subst (λ (q : Place). IsHere t.cols q s.screen.row s.screen.col s.screen.pending) e h.place in
    (calmly t.cols p s.screen.row s.screen.col s.screen.pending w.1 so).2

-- the belief is the knowledge between two refreshes
pub rested_as : (b : Belief) → IsRested b → b ≡ rested (cursor_of b)
rested_as b r = ap (λ (x : Brush). record b { brush = x }) r.brush ∙ ap (λ (o : Option Bool). record b { brush = plain_brush; graphic = o }) r.set

pub agrees_rested : (t : Table) (g : ℕ → ℕ → Ink) (b : Belief) → IsRested b → (s : State) → Agrees t g b s → Agrees t g (rested (cursor_of b)) s
agrees_rested t g b r s h = subst (λ (x : Belief). Agrees t g x s) (rested_as b r) h

-- a state after the resynchronization
pub blank_agrees : (t : Table) (mode : Option Mode) (seen : Bool) → IsSeen mode seen → (s : State) → IsBlank t seen s → Agrees t (λ i j. blank_ink) (at_start mode) s
blank_agrees t mode seen so s h = record {
  ready = h.ready;
  cells = h.cells;
  place = (let k = stands_at t.cols 0 0 (omega (arith, h.ready.sized.state.screen.col, h.ready.sized.cols)) in (h.row, h.col ∙ k.1, h.pending ∙ k.2));
  brush = h.rendition;
  colored = record { foreground = λ e. refl; background = λ e. refl };
  set = h.set;
  seen = subst (λ (b : Bool). IsSeen mode b) (sym h.visible) so;
}
