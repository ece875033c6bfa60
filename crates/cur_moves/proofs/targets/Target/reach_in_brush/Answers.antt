use Rattle.std.proofs.Common.{◌*◌, arith}
use Rattle.std.proofs.lemmas.Result.{err_from_is_err_and}
use Rattle.cur_steps.proofs.Stops.{steps_fail, steps_next}
use Rattle.ti_conforms.specs.Certified.{IsLost}
use Rattle.cur_steps.specs.Pieces.{IsPaint}
use Rattle.cur_steps.specs.Beliefs.{Agrees, moves, brush_limit, ready_limit}
use Rattle.cur_steps.proofs.Answers.{moves_few, at_most}
use Rattle.cur_moves.proofs.targets.Target.reach_in_brush.Goals as goal

pub returns-in_err-reach-clause-step : goal.returns-in_err-reach-clause-step
returns-in_err-reach-clause-step g c h k =
    let e = err_from_is_err_and c.from_residual.result c.from_residual.ensures.1 in
    let t = g.C.Certificate.table c.args.self.now.checked.now in
    let b = c.args.pen.now.belief in
    rw e.1 (steps_fail g.W.Wire.went g.W.Wire.failures c.args.pen.now.wire c.reach.new.pen.wire _ _ (IsPaint t) (moves b.place c.args.at.row c.args.at.col * t.longest.cup) (ready_limit t) (IsLost t) (Agrees t h b) (Agrees t h c.reach.new.pen.belief) (Agrees t h c.reach.new.pen.belief)
    (omega (arith, at_most _ t.longest.cup (moves_few b.place c.args.at.row c.args.at.col))) (c.in_err-reach.ensures.step h k))

pub returns-clause-step : goal.returns-clause-step
returns-clause-step g c h k =
    let t = g.C.Certificate.table c.args.self.now.checked.now in
    let b = c.args.pen.now.belief in
    steps_next g.W.Wire.went g.W.Wire.failures g.met.W.Wire.lawful c.args.pen.now.wire c.reach.new.pen.wire c.brush_as.new.pen.wire _ c.brush_as.result (IsPaint t) (moves b.place c.args.at.row c.args.at.col * t.longest.cup) (brush_limit t) (ready_limit t) (IsLost t)
    (Agrees t h b) (Agrees t h c.reach.new.pen.belief) (Agrees t h c.brush_as.new.pen.belief) (omega (arith, at_most _ t.longest.cup (moves_few b.place c.args.at.row c.args.at.col))) (c.in_ok-reach.ensures.step h k) (c.brush_as.ensures.step h)
