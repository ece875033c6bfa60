use Rattle.std.proofs.Common.{arith}
use Rattle.std.proofs.lemmas.Result.{err_from_is_err_and}
use Rattle.cur_steps.proofs.Stops.{steps_fail, steps_next}
use Rattle.ti_conforms.specs.Certified.{IsLost, cell_limit}
use Rattle.cur_steps.specs.Pieces.{IsPaint}
use Rattle.cur_steps.specs.Inks.{put_at}
use Rattle.cur_steps.specs.Beliefs.{Agrees, ink_limit}
use Rattle.cur_moves.proofs.targets.Target.put_cell.Goals as goal

pub returns-in_err-approach-clause-step : goal.returns-in_err-approach-clause-step
returns-in_err-approach-clause-step g c h k =
    let e = err_from_is_err_and c.from_residual.result c.from_residual.ensures.1 in
    let t = g.C.Certificate.table c.args.self.now.checked.now in
    let b = c.args.pen.now.belief in
    rw e.1 (steps_fail g.W.Wire.went g.W.Wire.failures c.args.pen.now.wire c.approach.new.pen.wire _ _ (IsPaint t) t.longest.cup (cell_limit t) (IsLost t) (Agrees t h b) (Agrees t h c.approach.new.pen.belief) (Agrees t (put_at c.args.at.row c.args.at.col c.args.ink h) c.approach.new.pen.belief)
    (omega arith) (c.in_err-approach.ensures.step h k))

pub returns-clause-step : goal.returns-clause-step
returns-clause-step g c h k =
    let t = g.C.Certificate.table c.args.self.now.checked.now in
    let b = c.args.pen.now.belief in
    steps_next g.W.Wire.went g.W.Wire.failures g.met.W.Wire.lawful c.args.pen.now.wire c.approach.new.pen.wire c.put_here.new.pen.wire _ c.put_here.result (IsPaint t) t.longest.cup (ink_limit t) (cell_limit t) (IsLost t)
    (Agrees t h b) (Agrees t h c.approach.new.pen.belief) (Agrees t (put_at c.args.at.row c.args.at.col c.args.ink h) c.put_here.new.pen.belief) (omega arith) (c.in_ok-approach.ensures.step h k) (c.put_here.ensures.step h)
