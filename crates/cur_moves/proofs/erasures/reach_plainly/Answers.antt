use Rattle.std.proofs.Common.{arith}
use Rattle.std.proofs.lemmas.Result.{err_from_is_err_and}
use Rattle.cur_steps.proofs.Stops.{steps_fail, steps_next}
use Rattle.ti_conforms.specs.Certified.{IsLost}
use Rattle.cur_steps.specs.Pieces.{IsPaint}
use Rattle.cur_steps.specs.Beliefs.{Agrees, brush_limit, ready_limit}
use Rattle.cur_moves.proofs.erasures.reach_plainly.Goals as goal

pub returns-in_err-reach_by_line-clause-step : goal.returns-in_err-reach_by_line-clause-step
returns-in_err-reach_by_line-clause-step g c h =
    let e = err_from_is_err_and c.from_residual.result c.from_residual.ensures.1 in
    let t = g.C.Certificate.table c.args.checked.now in
    let b = c.args.pen.now.belief in
    rw e.1 (steps_fail g.W.Wire.went g.W.Wire.failures c.args.pen.now.wire c.reach_by_line.new.pen.wire _ _ (IsPaint t) t.longest.cup (ready_limit t) (IsLost t) (Agrees t h b) (Agrees t h c.reach_by_line.new.pen.belief) (Agrees t h c.reach_by_line.new.pen.belief)
    (omega arith) (c.in_err-reach_by_line.ensures.step h))

pub returns-clause-step : goal.returns-clause-step
returns-clause-step g c h =
    let t = g.C.Certificate.table c.args.checked.now in
    let b = c.args.pen.now.belief in
    steps_next g.W.Wire.went g.W.Wire.failures g.met.W.Wire.lawful c.args.pen.now.wire c.reach_by_line.new.pen.wire c.brush_as.new.pen.wire _ c.brush_as.result (IsPaint t) t.longest.cup (brush_limit t) (ready_limit t) (IsLost t)
    (Agrees t h b) (Agrees t h c.reach_by_line.new.pen.belief) (Agrees t h c.brush_as.new.pen.belief) (omega arith) (c.in_ok-reach_by_line.ensures.step h) (c.brush_as.ensures.step h)
