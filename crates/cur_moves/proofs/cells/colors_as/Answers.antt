use Rattle.std.proofs.Common.{arith}
use Rattle.std.proofs.lemmas.Result.{err_from_is_err_and}
use Rattle.cur_steps.proofs.Stops.{steps_fail, steps_next}
use Rattle.ti_conforms.specs.Certified.{IsLost}
use Rattle.cur_steps.specs.Pieces.{IsPaint}
use Rattle.cur_steps.specs.Beliefs.{Agrees, colors_limit}
use Rattle.cur_moves.proofs.cells.colors_as.Goals as goal

pub returns-in_err-color_as-clause-step : goal.returns-in_err-color_as-clause-step
returns-in_err-color_as-clause-step g c h =
    let e = err_from_is_err_and c.from_residual.result c.from_residual.ensures.1 in
    let t = g.C.Certificate.table c.args.checked.now in
    let b = c.args.pen.now.belief in
    rw e.1 (steps_fail g.W.Wire.went g.W.Wire.failures c.args.pen.now.wire c.color_as.new.self.wire _ _ (IsPaint t) (t.longest.setaf) (colors_limit t) (IsLost t) (Agrees t h b) (Agrees t h c.color_as.new.self.belief) (Agrees t h c.color_as.new.self.belief)
    (omega arith) (c.in_err-color_as.ensures.step h))

pub returns-clause-step : goal.returns-clause-step
returns-clause-step g c h =
    let t = g.C.Certificate.table c.args.checked.now in
    let b = c.args.pen.now.belief in
    steps_next g.W.Wire.went g.W.Wire.failures g.met.W.Wire.lawful c.args.pen.now.wire c.color_as.new.self.wire c.color_as-2.new.self.wire _ c.color_as-2.result (IsPaint t) (t.longest.setaf) (t.longest.setab) (colors_limit t) (IsLost t)
    (Agrees t h b) (Agrees t h c.color_as.new.self.belief) (Agrees t h c.color_as-2.new.self.belief) (omega arith) (c.in_ok-color_as.ensures.step h) (c.color_as-2.ensures.step h)
