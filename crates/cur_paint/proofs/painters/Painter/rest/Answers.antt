use Rattle.std.proofs.lemmas.Result.{err_from_is_err_and}
use Rattle.std.proofs.Common.{arith}
use Rattle.cur_steps.proofs.Stops.{steps_fail, steps_next}
use Rattle.ti_conforms.specs.Certified.{IsLost}
use Rattle.cur_steps.specs.Beliefs.{Agrees, plain_limit}
use Rattle.cur_steps.specs.Pieces.{IsPaint}
use Rattle.cur_paint.specs.Limits.{rest_limit}
use Rattle.cur_paint.proofs.painters.Painter.rest.Goals as goal

pub returns-in_err-make_plain-clause-step : goal.returns-in_err-make_plain-clause-step
returns-in_err-make_plain-clause-step g c h =
    let e = err_from_is_err_and c.from_residual.result c.from_residual.ensures.1 in
    let t = g.C.Certificate.table c.args.self.now.screens.now.checked.now in
    let b = c.args.self.now.pen.now.belief in
    rw e.1 (steps_fail g.W.Wire.went g.W.Wire.failures c.args.self.now.pen.now.wire c.make_plain.new.pen.wire _ _ (IsPaint t) (plain_limit t) (rest_limit t) (IsLost t) (Agrees t h b) (Agrees t h c.make_plain.new.pen.belief) (Agrees t h c.make_plain.new.pen.belief)
    (omega arith) (c.in_err-make_plain.ensures.step h))

pub returns-clause-step : goal.returns-clause-step
returns-clause-step g c h =
    let t = g.C.Certificate.table c.args.self.now.screens.now.checked.now in
    let b = c.args.self.now.pen.now.belief in
    steps_next g.W.Wire.went g.W.Wire.failures g.met.W.Wire.lawful c.args.self.now.pen.now.wire c.make_plain.new.pen.wire c.set_as.new.self.wire _ c.set_as.result (IsPaint t) (plain_limit t) t.longest.sets (rest_limit t) (IsLost t)
    (Agrees t h b) (Agrees t h c.make_plain.new.pen.belief) (Agrees t h c.set_as.new.self.belief) (omega arith) (c.in_ok-make_plain.ensures.step h) (c.set_as.ensures.step h)
