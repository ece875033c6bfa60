use Rattle.std.proofs.Common.{arith}
use Rattle.std.proofs.lemmas.Result.{err_from_is_err_and}
use Rattle.cur_steps.proofs.Stops.{steps_fail, steps_next, steps_wider}
use Rattle.ti_conforms.specs.Certified.{IsLost}
use Rattle.cur_steps.specs.Pieces.{IsPaint}
use Rattle.cur_steps.specs.Beliefs.{Agrees, plain_limit, colors_limit, brush_limit}
use Rattle.cur_moves.proofs.cells.brush_as.Goals as goal

pub returns-in_err-plainly_as-clause-step : goal.returns-in_err-plainly_as-clause-step
returns-in_err-plainly_as-clause-step g c h =
    let e = err_from_is_err_and c.from_residual.result c.from_residual.ensures.1 in
    let t = g.C.Certificate.table c.args.checked.now in
    let b = c.args.pen.now.belief in
    rw e.1 (steps_fail g.W.Wire.went g.W.Wire.failures c.args.pen.now.wire c.plainly_as.new.pen.wire _ _ (IsPaint t) (plain_limit t) (brush_limit t) (IsLost t) (Agrees t h b) (Agrees t h c.plainly_as.new.pen.belief) (Agrees t h c.plainly_as.new.pen.belief)
    (omega arith) (c.in_err-plainly_as.ensures.step h))

pub returns-clause-step : goal.returns-clause-step
returns-clause-step g c h =
    let t = g.C.Certificate.table c.args.checked.now in
    let b = c.args.pen.now.belief in
    steps_next g.W.Wire.went g.W.Wire.failures g.met.W.Wire.lawful c.args.pen.now.wire c.plainly_as.new.pen.wire c.colors_as-2.new.pen.wire _ c.colors_as-2.result (IsPaint t) (plain_limit t) (colors_limit t) (brush_limit t) (IsLost t)
    (Agrees t h b) (Agrees t h c.plainly_as.new.pen.belief) (Agrees t h c.colors_as-2.new.pen.belief) (omega arith) (c.in_ok-plainly_as.ensures.step h) (c.colors_as-2.ensures.step h)

pub returns-then-is_recolored-clause-step : goal.returns-then-is_recolored-clause-step
returns-then-is_recolored-clause-step g c h =
    let t = g.C.Certificate.table c.args.checked.now in
    let b = c.args.pen.now.belief in
    let z = c.colors_as.new.pen in
    steps_wider g.W.Wire.went g.W.Wire.failures c.args.pen.now.wire z.wire c.colors_as.result (IsPaint t) (colors_limit t) (brush_limit t) (IsLost t) (Agrees t h b) (Agrees t h z.belief) (Agrees t h b) (Agrees t h z.belief)
    (omega arith) (λ s x. x) (λ s x. x) (c.colors_as.ensures.step h)
