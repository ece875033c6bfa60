use Rattle.std.proofs.Common.{arith}
use Rattle.std.proofs.lemmas.Result.{err_from_is_err_and}
use Rattle.cur_steps.proofs.Stops.{steps_fail, steps_next, steps_wider}
use Rattle.ti_conforms.specs.Certified.{IsLost}
use Rattle.cur_steps.specs.Pieces.{IsPaint}
use Rattle.cur_steps.specs.Beliefs.{Agrees, plain_limit}
use Rattle.cur_moves.proofs.cells.plainly_as.Goals as goal

pub returns-in_err-colors_off-in-None-clause-step : goal.returns-in_err-colors_off-in-None-clause-step
returns-in_err-colors_off-in-None-clause-step g c h =
    let e = err_from_is_err_and c.from_residual.result c.from_residual.ensures.1 in
    let t = g.C.Certificate.table c.args.checked.now in
    let b = c.args.pen.now.belief in
    rw e.1 (steps_fail g.W.Wire.went g.W.Wire.failures c.args.pen.now.wire c.colors_off.new.self.wire _ _ (IsPaint t) (t.longest.op) (plain_limit t) (IsLost t) (Agrees t h b) (Agrees t h c.colors_off.new.self.belief) (Agrees t h c.colors_off.new.self.belief)
    (omega arith) (c.in_err-colors_off-in-None.ensures.step h))

pub returns-in_ok-colors_off-in-None-clause-step : goal.returns-in_ok-colors_off-in-None-clause-step
returns-in_ok-colors_off-in-None-clause-step g c h =
    let t = g.C.Certificate.table c.args.checked.now in
    let b = c.args.pen.now.belief in
    steps_next g.W.Wire.went g.W.Wire.failures g.met.W.Wire.lawful c.args.pen.now.wire c.colors_off.new.self.wire c.attributes_as.new.self.wire _ c.attributes_as.result (IsPaint t) (t.longest.op) (t.longest.sgr) (plain_limit t) (IsLost t)
    (Agrees t h b) (Agrees t h c.colors_off.new.self.belief) (Agrees t h c.attributes_as.new.self.belief) (omega arith) (c.in_ok-colors_off-in-None.ensures.step h) (c.attributes_as.ensures.step h)

-- by one string
pub returns-in-Some-clause-step : goal.returns-in-Some-clause-step
returns-in-Some-clause-step g c h =
    let t = g.C.Certificate.table c.args.checked.now in
    let b = c.args.pen.now.belief in
    let z = c.attributes_at_once.new.self in
    steps_wider g.W.Wire.went g.W.Wire.failures c.args.pen.now.wire z.wire c.attributes_at_once.result (IsPaint t) (t.longest.sgr) (plain_limit t) (IsLost t) (Agrees t h b) (Agrees t h z.belief) (Agrees t h b) (Agrees t h z.belief)
    (omega arith) (λ s x. x) (λ s x. x) (c.attributes_at_once.ensures.step h)
