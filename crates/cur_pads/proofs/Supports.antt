-- A refused call leaves the desk and the screen as they were.
use Rattle.std.proofs.Common.{ℕ, refl, Result, Ok, Err, ℤ, pos}
use Rattle.cur_drawing.specs.declared.refusals.Refusal.{Refusal}
use Rattle.cur_drawing.specs.declared.refusals.Refusal.TheVariants.{OutOfScreen, OutOfWindow}
use Rattle.cur_drawing.specs.Calls.{place}
use Rattle.cur_windows.specs.Copies.{in_order}
use Rattle.cur_windows.specs.Desks.{State, DeskStep, after}
use Rattle.cur_windows.specs.Laws.{UnchangedIfRefused}
use Rattle.cur_windows.specs.Creations.{free, in_range, subwindow_added}
use Rattle.cur_drawing.specs.Spans.{rectangle, area_within}
use Rattle.cur_windows.specs.Pads.{pad_added, part_shown}
use Rattle.cur_screens.specs.VirtualScreen.{Screen}
use Rattle.cur_windows.specs.Refreshes.{Refresh, if_shown}
use Rattle.cur_pads.specs.Laws.{BothUnchangedIfRefused}
use Rattle.cur_pads.specs.Creations as spec
use Rattle.cur_pads.specs.Ranges.{between, from}
use Rattle.cur_pads.specs.Displays.{pnoutrefresh, start}

back_after : {A : Type 0} (d : State) (r : Result A Refusal) (next : A → DeskStep) → ((a : A) → UnchangedIfRefused d (next a)) → UnchangedIfRefused d (after r d next)
back_after d (Ok a) next p e h = p a e h
back_after d (Err x) next p e h = refl

back_done : (d e : State) → UnchangedIfRefused d (e, Ok tt)
back_done d e x h = absurd cc

pub newpad : (d : State) (n : ℕ) (lines cols : ℤ) → UnchangedIfRefused d (spec.newpad d n lines cols)
newpad d n lines cols = back_after d (free d n) _ (λ u. back_after d (spec.both_sides (spec.side lines) (spec.side cols)) _ (λ size. back_done d (pad_added d n size.0 size.1)))

pub subpad : (d : State) (n w : ℕ) (lines cols y x : ℤ) → UnchangedIfRefused d (spec.subpad d n w lines cols y x)
subpad d n w lines cols y x =
    back_after d (in_range n w) _ (λ u. back_after d (free d n) _ (λ u. back_after d (spec.pad_of d w) _ (λ s.
    back_after d (area_within s.window.area.rows s.window.area.cols lines cols y x OutOfWindow) _ (λ a. back_done d (subwindow_added d n w s a)))))

both_after : {A : Type 0} (d : State) (v : Screen) (r : Result A Refusal) (next : A → Refresh) → ((a : A) → BothUnchangedIfRefused d v (next a)) → BothUnchangedIfRefused d v (if_shown r d v next)
both_after d v (Ok a) next p e h = p a e h
both_after d v (Err x) next p e h = (refl, refl)

both_done : (d e : State) (v w : Screen) → BothUnchangedIfRefused d v (e, w, Ok tt)
both_done d e v w x h = absurd cc

pub shown : (d : State) (v : Screen) (n : ℕ) (pr pc sr sc er ec : ℤ) → BothUnchangedIfRefused d v (pnoutrefresh d v n pr pc sr sc er ec)
shown d v n pr pc sr sc er ec =
    both_after d v (spec.pad_of d n) _ (λ s. both_after d v (in_order (pos (start sr)) er (pos (start sc)) ec) _ (λ u.
    both_after d v (rectangle (between (start sr) er d.rows) (between (start sc) ec d.cols) OutOfScreen) _ (λ to.
    both_after d v (rectangle (from (start pr) to.rows s.window.area.rows) (from (start pc) to.cols s.window.area.cols) OutOfWindow) _ (λ part.
    (let x = part_shown d v n s part (place to.top to.left) in both_done d x.0 v x.1)))))
