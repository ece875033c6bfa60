use Rattle.std.proofs.Common.{◌*◌, refl, sym, ap, ◌∙◌}
use Rattle.cur_steps.proofs.Stops.{on_ok_map, steps_none, steps_wider}
use Rattle.ti_conforms.specs.Certified.{IsLost}
use Rattle.cur_steps.specs.Pieces.{IsPaint}
use Rattle.cur_steps.specs.Beliefs.{Agrees, moves}
use Rattle.cur_steps.specs.declared.beliefs.Belief.{Belief}
use Rattle.cur_steps.proofs.Actions.{agrees_lost}
use Rattle.cur_steps.proofs.Answers.{moves_few, at_most}
use Rattle.cur_paint.proofs.Bounds.{at_as}
use Rattle.cur_paint.proofs.painters.Painter.place_cursor.Goals as goal

pub returns-in_default-clause-step : goal.returns-in_default-clause-step
returns-in_default-clause-step g c =
    let h = g.N.Picture.cells c.args.self.now.screens.now.new.now in
    let t = g.C.Certificate.table c.args.self.now.screens.now.checked.now in
    let b = c.args.self.now.pen.now.belief in
    steps_none g.W.Wire.went g.W.Wire.failures g.met.W.Wire.lawful c.args.self.now.pen.now.wire tt (IsPaint t) _ (IsLost t) (Agrees t h b) (λ s x. x.ready.rest) (agrees_lost t c.requires.scene.checked h b)

pub returns-clause-step : goal.returns-clause-step
returns-clause-step g c =
    let h = g.N.Picture.cells c.args.self.now.screens.now.new.now in
    let t = g.C.Certificate.table c.args.self.now.screens.now.checked.now in
    let b = c.args.self.now.pen.now.belief in
    let z = c.reach.new.pen.belief in
    let at = c.in-Some.at in
    rw c.in-Some.is (steps_wider g.W.Wire.went g.W.Wire.failures c.args.self.now.pen.now.wire c.reach.new.pen.wire c.reach.result (IsPaint t) (moves b.place at.row at.col * t.longest.cup) t.longest.cup (IsLost t) (Agrees t h b) (Agrees t h z) (Agrees t h b) (Agrees t h z)
    (at_most _ t.longest.cup (moves_few b.place at.row at.col)) (λ s x. x) (λ s x. x) (c.reach.ensures.step h (λ k lt. refl)))

pub returns-clause-at : goal.returns-clause-at
returns-clause-at g c =
    on_ok_map c.reach.result _ _ (λ e. at_as c.args.cursor c.in-Some.at c.reach.new.pen.belief.place c.in-Some.is (ap (λ (x : Belief). x.place) e)) c.reach.ensures.belief

pub returns-clause-belief : goal.returns-clause-belief
returns-clause-belief g c =
    let b = c.args.self.now.pen.now.belief in
    on_ok_map c.reach.result _ _ (λ e. e ∙ ap (λ (x : Belief). record b { place = x.place }) (sym e)) c.reach.ensures.belief
