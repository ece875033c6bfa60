use Rattle.std.proofs.Common.{arith}
use Rattle.std.proofs.lemmas.Result.{err_from_is_err_and}
use Rattle.cur_steps.proofs.Stops.{steps_fail, steps_next}
use Rattle.ti_conforms.specs.Certified.{IsLost, cell_limit}
use Rattle.cur_steps.specs.Pieces.{IsPaint}
use Rattle.cur_moves.specs.Erasures.{erased}
use Rattle.cur_steps.specs.Beliefs.{Agrees, ready_limit}
use Rattle.cur_moves.proofs.targets.Target.erase_from.Goals as goal

pub returns-in_err-reach_in_brush-clause-step : goal.returns-in_err-reach_in_brush-clause-step
returns-in_err-reach_in_brush-clause-step g c h k =
    let e = err_from_is_err_and c.from_residual.result c.from_residual.ensures.1 in
    let t = g.C.Certificate.table c.args.self.now.checked.now in
    let b = c.args.pen.now.belief in
    rw e.1 (steps_fail g.W.Wire.went g.W.Wire.failures c.args.pen.now.wire c.reach_in_brush.new.pen.wire _ _ (IsPaint t) (ready_limit t) (cell_limit t) (IsLost t) (Agrees t h b) (Agrees t h c.reach_in_brush.new.pen.belief) (Agrees t (erased c.args.erasure.part c.args.erasure.at.row c.args.erasure.at.col h) c.reach_in_brush.new.pen.belief)
    (omega arith) (c.in_err-reach_in_brush.ensures.step h k))

pub returns-clause-step : goal.returns-clause-step
returns-clause-step g c h k =
    let t = g.C.Certificate.table c.args.self.now.checked.now in
    let b = c.args.pen.now.belief in
    steps_next g.W.Wire.went g.W.Wire.failures g.met.W.Wire.lawful c.args.pen.now.wire c.reach_in_brush.new.pen.wire c.erase_here.new.pen.wire _ c.erase_here.result (IsPaint t) (ready_limit t) (t.longest.erasure) (cell_limit t) (IsLost t)
    (Agrees t h b) (Agrees t h c.reach_in_brush.new.pen.belief) (Agrees t (erased c.args.erasure.part c.args.erasure.at.row c.args.erasure.at.col h) c.erase_here.new.pen.belief) (omega arith) (c.in_ok-reach_in_brush.ensures.step h k) (c.erase_here.ensures.step h)
