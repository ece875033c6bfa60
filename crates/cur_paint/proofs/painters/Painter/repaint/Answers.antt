use Rattle.std.proofs.Common.{ℕ, length, arith}
use Rattle.std.proofs.lemmas.Result.{err_from_is_err_and}
use Rattle.cur_steps.specs.declared.inks.Ink.{Ink}
use Rattle.cur_steps.specs.Inks.{blank_ink}
use Rattle.cur_steps.specs.Beliefs.{Agrees}
use Rattle.cur_steps.proofs.Actions.{agrees_lost}
use Rattle.cur_paint.specs.Cleared.{IsLeft, at_start}
use Rattle.cur_paint.specs.Limits.{fresh_limit, renewal_limit}
use Rattle.cur_paint.proofs.Bounds.{fresh_enough}
use Rattle.cur_paint.proofs.Renewals.{anew_failed, anew_then, resync_leads}
use Rattle.cur_paint.proofs.painters.Painter.repaint.Goals as goal

pub returns-in_err-send_all-clause-step : goal.returns-in_err-send_all-clause-step
returns-in_err-send_all-clause-step g c =
    let e = err_from_is_err_and c.from_residual.result c.from_residual.ensures.1 in
    let t = g.C.Certificate.table c.args.self.now.screens.now.checked.now in
    let new = g.N.Picture.cells c.args.self.now.screens.now.new.now in
    let blank : ℕ → ℕ → Ink = λ i j. blank_ink in
    let sends = rw c.resync.ensures.value at c.in_err-send_all.ensures.sends in
    rw e.1 (anew_failed g.W.Wire.went g.W.Wire.failures c.args.self.now.pen.now.wire c.send_all.new.wire _ t (fresh_limit t) (IsLeft t c.args.shown_as) (Agrees t blank (at_start c.args.shown_as)) (Agrees t new c.start_belief-self.result) t.resync c.args.shown_as c.args.wanted (agrees_lost t c.requires.can.scene.checked blank (at_start c.args.shown_as)) (omega arith)
    (resync_leads t c.requires.can.scene.checked c.args.shown_as) sends)

pub returns-clause-step : goal.returns-clause-step
returns-clause-step g c =
    let t = g.C.Certificate.table c.args.self.now.screens.now.checked.now in
    let new = g.N.Picture.cells c.args.self.now.screens.now.new.now in
    let blank : ℕ → ℕ → Ink = λ i j. blank_ink in
    let w = c.args.wanted in
    let start = at_start c.args.shown_as in
    let sends = rw c.resync.ensures.value at c.in_ok-send_all.ensures.sends in
    let steps = rw c.start_belief-self.ensures.value at c.paint_all.ensures.ends.step in
    anew_then g.W.Wire.went g.W.Wire.failures g.met.W.Wire.lawful c.args.self.now.pen.now.wire c.send_all.new.wire c.paint_all.new.self.pen.now.wire c.paint_all.result t (fresh_limit t) (IsLeft t c.args.shown_as) (Agrees t blank start) (Agrees t new c.paint_all.new.self.pen.now.belief) t.resync c.args.shown_as w
    (renewal_limit t blank new) (fresh_enough t (length t.resync) blank new (omega arith)) (resync_leads t c.requires.can.scene.checked c.args.shown_as) sends steps
