use Rattle.std.proofs.Common.{arith}
use Rattle.std.proofs.lemmas.Result.{err_from_is_err_and}
use Rattle.cur_steps.proofs.Stops.{steps_fail, steps_next, steps_wider}
use Rattle.ti_conforms.specs.Certified.{IsLost}
use Rattle.cur_steps.specs.Pieces.{IsPaint}
use Rattle.cur_steps.specs.Inks.{put_at}
use Rattle.cur_steps.specs.Beliefs.{Agrees, brush_limit, stamp_limit, ink_limit}
use Rattle.cur_moves.proofs.cells.put_here.Goals as goal

pub returns-in_err-brush_as-clause-step : goal.returns-in_err-brush_as-clause-step
returns-in_err-brush_as-clause-step g c h =
    let e = err_from_is_err_and c.from_residual.result c.from_residual.ensures.1 in
    let t = g.C.Certificate.table c.args.checked.now in
    let b = c.args.pen.now.belief in
    rw e.1 (steps_fail g.W.Wire.went g.W.Wire.failures c.args.pen.now.wire c.brush_as.new.pen.wire _ _ (IsPaint t) (brush_limit t) (ink_limit t) (IsLost t) (Agrees t h b) (Agrees t h c.brush_as.new.pen.belief) (Agrees t (put_at c.args.at.row c.args.at.col c.args.ink h) c.brush_as.new.pen.belief)
    (omega arith) (c.in_err-brush_as.ensures.step h))

pub returns-clause-step : goal.returns-clause-step
returns-clause-step g c h =
    let t = g.C.Certificate.table c.args.checked.now in
    let b = c.args.pen.now.belief in
    steps_next g.W.Wire.went g.W.Wire.failures g.met.W.Wire.lawful c.args.pen.now.wire c.brush_as.new.pen.wire c.print_in_set.new.pen.wire _ c.print_in_set.result (IsPaint t) (brush_limit t) (stamp_limit t) (ink_limit t) (IsLost t)
    (Agrees t h b) (Agrees t h c.brush_as.new.pen.belief) (Agrees t (put_at c.args.at.row c.args.at.col c.args.ink h) c.print_in_set.new.pen.belief) (omega arith) (c.in_ok-brush_as.ensures.step h) (c.print_in_set.ensures.step h)

pub returns-then-is_alike-clause-step : goal.returns-then-is_alike-clause-step
returns-then-is_alike-clause-step g c h =
    let t = g.C.Certificate.table c.args.checked.now in
    let b = c.args.pen.now.belief in
    let z = c.print_at.new.self in
    steps_wider g.W.Wire.went g.W.Wire.failures c.args.pen.now.wire z.wire c.print_at.result (IsPaint t) 1 (ink_limit t) (IsLost t) (Agrees t h b) (Agrees t (put_at c.args.at.row c.args.at.col c.args.ink h) z.belief) (Agrees t h b) (Agrees t (put_at c.args.at.row c.args.at.col c.args.ink h) z.belief)
    (omega arith) (λ s x. x) (λ s x. x) (c.print_at.ensures.step h)
