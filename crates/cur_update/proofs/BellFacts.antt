-- The effect of the bell's string on a state that fits.
use Rattle.std.proofs.Common.{◌≡◌, ℕ, List, ◌++◌, Some, refl}
use Rattle.vt_term.specs.Screen.{State}
use Rattle.vt_term.specs.Ends.{Ends}
use Rattle.vt_term.specs.Ends.{Closed}
use Rattle.cur_steps.proofs.Completion.{ends_sized}
use Rattle.ti_rows.specs.declared.rows.Row.TheVariants.{Bel}
use Rattle.cur_steps.specs.declared.beliefs.Belief.{Belief}
use Rattle.cur_steps.specs.declared.inks.Ink.{Ink}
use Rattle.ti_conforms.specs.Certified.{Table, IsLost, IsChecked, IsCheckedLine, Ended}
use Rattle.cur_steps.specs.Beliefs.{Agrees, Turns}
use Rattle.cur_steps.proofs.Actions.{agrees_lost}
use Rattle.cur_steps.proofs.Turns.{free_of, by_screen}
use Rattle.cur_paint.specs.Update.{Meets, IsFresh}
use Rattle.cur_paint.specs.declared.updates.Status.{Status}
use Rattle.cur_paint.specs.declared.updates.Status.TheVariants.{Fresh, Known, Lost}
use Rattle.cur_steps.proofs.Actions.{line_ends}

rung : (t : Table) (g : ℕ → ℕ → Ink) (b : Belief) → Turns t Bel g b g b
rung t g b = record {
  starts = λ s h. free_of t s h.ready;
  ends = λ s u h sized closed w. by_screen t (Agrees t g b) u s.screen sized closed w.wants
      (λ k. record {
        ready = record { sized = k; rest = refl; tame = h.ready.tame; whole = h.ready.whole; settled = h.ready.settled; visible = h.ready.visible };
        cells = h.cells;
        place = h.place;
        brush = h.brush;
        colored = h.colored;
        set = h.set;
        seen = h.seen;
      });
}

rung_fresh : (t : Table) → IsChecked t → (line : List ℕ) → t.line_of Bel ≡ Some line → (s : State) → IsFresh t s → Ends s line (IsFresh t)
rung_fresh t checked line is s h =
    let its : IsCheckedLine t Bel line = checked.lines Bel line is in
    ends_sized t.rows t.cols s line (Closed (Ended t Bel s.screen)) (IsFresh t) h.lost.sized
    (λ u sized k. by_screen t (IsFresh t) u s.screen sized k.rest k.screen.wants
    (λ size. record {
      lost = record { sized = size; tame = h.lost.tame; reached = h.lost.reached; margins = h.lost.margins; visible = h.lost.visible };
      rest = refl;
      whole = h.whole;
      visible = h.visible;
    }))
    (its.drives.right s h.rest (record { any = record { screen = h.lost.sized.state.screen; rows_are = h.lost.sized.rows; cols_are = h.lost.sized.cols; tame = h.lost.tame }; top = h.whole.top; bottom = h.whole.bottom }))

pub rung_fits : (t : Table) → IsChecked t → (line : List ℕ) → t.line_of Bel ≡ Some line → (status : Status) → (status ≡ Lost → ⊥) → (b : Belief) (g : ℕ → ℕ → Ink) (s : State) → Meets t g status b s → Ends s line (Meets t g status b)
rung_fits t checked line is Fresh some b g s h = rung_fresh t checked line is s h
rung_fits t checked line is Known some b g s h = line_ends t checked Bel line is g g b b (rung t g b) s h
rung_fits t checked line is Lost some b g s h = absurd (some refl)

pub rung_short : (t : Table) → IsChecked t → (line : List ℕ) → t.line_of Bel ≡ Some line → (status : Status) → (status ≡ Lost → ⊥) → (b : Belief) (front back : List ℕ) → line ≡ front ++ back → (g : ℕ → ℕ → Ink) (s : State) → Meets t g status b s → Ends s front (IsLost t)
rung_short t checked line is Fresh some b front back e g s h = (checked.lines Bel line is).drives.fronts s h.rest h.lost front back e
rung_short t checked line is Known some b front back e g s h = (checked.lines Bel line is).drives.fronts s h.ready.rest (agrees_lost t checked g b s h) front back e
rung_short t checked line is Lost some b front back e g s h = absurd (some refl)
