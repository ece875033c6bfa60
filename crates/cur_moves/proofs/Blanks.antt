-- The effect of each erasure on a state that agrees with a belief.
use Rattle.std.proofs.Common.{◌≡◌, ℕ, ◌<◌, ◌≤◌, true, false, ap, subst, ◌∙◌, refl, arith, if◌then◌else◌}
use Rattle.vt_term.specs.Look.{Rendition, blank}
use Rattle.vt_term.specs.Grid.{look_at, drawn}
use Rattle.vt_term.specs.Screen.{Screen}
use Rattle.ti_rows.specs.declared.rows.Looks.{Looks}
use Rattle.ti_rows.specs.Starts.{IsCalm, Starts}
use Rattle.ti_rows.specs.Wants.{Wants, Blanks}
use Rattle.cur_steps.specs.declared.inks.Brush.{Brush}
use Rattle.cur_steps.specs.declared.inks.Ink.{Ink}
use Rattle.ti_conforms.specs.Certified.{Table, limit_of}
use Rattle.cur_steps.specs.Inks.{rendition_of, blank_ink, plain_brush}
use Rattle.cur_steps.specs.Beliefs.{Agrees, Turns, IsHere}
use Rattle.cur_steps.specs.declared.beliefs.Belief.{Belief}
use Rattle.cur_steps.specs.declared.beliefs.Place.{Place}
use Rattle.cur_steps.specs.Pieces.{paints}
use Rattle.cur_moves.specs.Erasures.{ErasedPart, Head, Part, Tail, Rest, erasure_row, is_erased, erased}
use Rattle.cur_steps.proofs.Turns.{look_at-drawn, free_of, by_screen, calmly, drawn_look}

starts_calmly : (e : ErasedPart) (rows cols : ℕ) (s : Screen) → IsCalm rows cols s → Starts rows cols (erasure_row e) s
starts_calmly Head rows cols s h = h
starts_calmly (Part n) rows cols s h = h
starts_calmly Tail rows cols s h = h
starts_calmly Rest rows cols s h = h

blanks : (l : Looks) (e : ErasedPart) (s u : Screen) → Wants l (erasure_row e) s u → Blanks (is_erased e s.row s.col) s u
blanks l Head s u h = h
blanks l (Part n) s u h = h
blanks l Tail s u h = h
blanks l Rest s u h = h

pub erasure_limit : (t : Table) (e : ErasedPart) → limit_of t (erasure_row e) ≤ t.longest.erasure
erasure_limit t Head = omega arith
erasure_limit t (Part n) = omega arith
erasure_limit t Tail = omega arith
erasure_limit t Rest = omega arith

pub erasure_paints : (e : ErasedPart) → paints (erasure_row e) ≡ true
erasure_paints Head = refl
erasure_paints (Part n) = refl
erasure_paints Tail = refl
erasure_paints Rest = refl

-- erased from where the cursor is known to be, in the plain brush
pub turns_erased : (t : Table) (g : ℕ → ℕ → Ink) (b : Belief) (e : ErasedPart) (r c : ℕ) → c < t.cols → b.place ≡ record { row = r; col = c } → b.brush ≡ plain_brush → Turns t (erasure_row e) g b (erased e r c g) b
turns_erased t g b e r c lc p q = record {
  starts = λ s h. (let at : (s.screen.row ≡ r) × (s.screen.col ≡ c) × (s.screen.pending ≡ false) = calmly t.cols (record { row = r; col = c }) s.screen.row s.screen.col s.screen.pending lc (subst (λ (o : Place). IsHere t.cols o s.screen.row s.screen.col s.screen.pending) p h.place) in
      starts_calmly e t.rows t.cols s.screen (record { free = free_of t s h.ready; pending = at.2 }));
  ends = λ s u h sized closed w. (let at : (s.screen.row ≡ r) × (s.screen.col ≡ c) × (s.screen.pending ≡ false) = calmly t.cols (record { row = r; col = c }) s.screen.row s.screen.col s.screen.pending lc (subst (λ (o : Place). IsHere t.cols o s.screen.row s.screen.col s.screen.pending) p h.place) in
      let so : s.screen.rendition ≡ rendition_of t.looks plain_brush = h.brush ∙ ap (λ (x : Brush). rendition_of t.looks x) q in
      by_screen t (Agrees t (erased e r c g) b) u (record s.screen { grid = drawn (λ i j old. if is_erased e s.screen.row s.screen.col i j then blank s.screen.rendition else old) s.screen.grid }) sized closed (blanks t.looks e s.screen u.screen w.wants)
      (λ k. record {
        ready = record { sized = k; rest = refl; tame = record { autowrap = h.ready.tame.autowrap; inserting = h.ready.tame.inserting }; whole = record { top = h.ready.whole.top; bottom = h.ready.whole.bottom }; settled = h.ready.settled; visible = h.ready.visible };
        cells = λ i j li lj.
            look_at-drawn (λ i j old. if is_erased e s.screen.row s.screen.col i j then blank s.screen.rendition else old) s.screen.grid i j
            (omega (arith, h.ready.sized.state.screen.columns i (omega (arith, h.ready.sized.rows)), h.ready.sized.cols))
            ∙ ap (λ (n : ℕ). if is_erased e n s.screen.col i j then blank s.screen.rendition else look_at s.screen.grid i j) at.0
            ∙ ap (λ (n : ℕ). if is_erased e r n i j then blank s.screen.rendition else look_at s.screen.grid i j) at.1
            ∙ drawn_look t (is_erased e r c i j) (blank s.screen.rendition) (look_at s.screen.grid i j) blank_ink (g i j) (ap (λ (x : Rendition). blank x) so) (h.cells i j li lj);
        place = h.place;
        brush = h.brush;
        colored = h.colored;
        set = h.set;
        seen = h.seen;
      }));
}
