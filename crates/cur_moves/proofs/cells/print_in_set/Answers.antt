use Rattle.std.proofs.Common.{arith}
use Rattle.std.proofs.lemmas.Result.{err_from_is_err_and}
use Rattle.cur_steps.proofs.Stops.{steps_fail, steps_next}
use Rattle.ti_conforms.specs.Certified.{IsLost}
use Rattle.cur_steps.specs.Pieces.{IsPaint}
use Rattle.cur_steps.specs.Inks.{put_at}
use Rattle.cur_steps.specs.Beliefs.{Agrees, stamp_limit}
use Rattle.cur_moves.proofs.cells.print_in_set.Goals as goal

pub returns-in_err-set_as-clause-step : goal.returns-in_err-set_as-clause-step
returns-in_err-set_as-clause-step g c h =
    let e = err_from_is_err_and c.from_residual.result c.from_residual.ensures.1 in
    let t = g.C.Certificate.table c.args.checked.now in
    let b = c.args.pen.now.belief in
    rw e.1 (steps_fail g.W.Wire.went g.W.Wire.failures c.args.pen.now.wire c.set_as.new.self.wire _ _ (IsPaint t) (t.longest.sets) (stamp_limit t) (IsLost t) (Agrees t h b) (Agrees t h c.set_as.new.self.belief) (Agrees t (put_at c.args.at.row c.args.at.col c.args.ink h) c.set_as.new.self.belief)
    (omega arith) (c.in_err-set_as.ensures.step h))

pub returns-clause-step : goal.returns-clause-step
returns-clause-step g c h =
    let t = g.C.Certificate.table c.args.checked.now in
    let b = c.args.pen.now.belief in
    steps_next g.W.Wire.went g.W.Wire.failures g.met.W.Wire.lawful c.args.pen.now.wire c.set_as.new.self.wire c.print_at.new.self.wire _ c.print_at.result (IsPaint t) (t.longest.sets) (1) (stamp_limit t) (IsLost t)
    (Agrees t h b) (Agrees t h c.set_as.new.self.belief) (Agrees t (put_at c.args.at.row c.args.at.col c.args.ink h) c.print_at.new.self.belief) (omega arith) (c.in_ok-set_as.ensures.step h) (c.print_at.ensures.step h)
