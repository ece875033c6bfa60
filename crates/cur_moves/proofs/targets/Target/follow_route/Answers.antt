use Rattle.std.proofs.Common.{length, arith}
use Rattle.std.proofs.lemmas.Result.{err_from_is_err_and}
use Rattle.cur_steps.proofs.Stops.{steps_fail, steps_next, steps_wider}
use Rattle.ti_conforms.specs.Certified.{IsLost, text_of}
use Rattle.cur_steps.specs.Pieces.{IsPaint}
use Rattle.cur_steps.specs.Beliefs.{Agrees}
use Rattle.cur_moves.specs.Routes.{leg_bytes}
use Rattle.cur_moves.proofs.targets.Target.follow_route.Goals as goal

pub returns-in-None-clause-step : goal.returns-in-None-clause-step
returns-in-None-clause-step g c h k =
    let t = g.C.Certificate.table c.args.self.now.checked.now in
    let b = c.args.pen.now.belief in
    let bytes = rw c.in-None.is at c.requires.route.bytes in
    steps_wider g.W.Wire.went g.W.Wire.failures c.args.pen.now.wire c.follow_leg.new.pen.wire c.follow_leg.result (IsPaint t) (leg_bytes t c.args.route.leg c.args.at.col) t.longest.cup (IsLost t) (Agrees t h b) (Agrees t h c.follow_leg.new.pen.belief) (Agrees t h b) (Agrees t h c.follow_leg.new.pen.belief)
    (omega (arith, bytes, c.requires.route.short)) (λ s x. x) (λ s x. x) (c.follow_leg.ensures.step h k)

pub returns-in_err-go_to_stop-in-Some-clause-step : goal.returns-in_err-go_to_stop-in-Some-clause-step
returns-in_err-go_to_stop-in-Some-clause-step g c h k =
    let e = err_from_is_err_and c.from_residual.result c.from_residual.ensures.1 in
    let t = g.C.Certificate.table c.args.self.now.checked.now in
    let b = c.args.pen.now.belief in
    let bytes = rw c.in-Some.is at c.requires.route.bytes in
    rw e.1 (steps_fail g.W.Wire.went g.W.Wire.failures c.args.pen.now.wire c.go_to_stop.new.pen.wire _ _ (IsPaint t) (length (text_of t c.in-Some.stop.line)) t.longest.cup (IsLost t) (Agrees t h b) (Agrees t h c.go_to_stop.new.pen.belief) (Agrees t h c.go_to_stop.new.pen.belief)
    (omega (arith, bytes, c.requires.route.short)) (c.in_err-go_to_stop-in-Some.ensures.step h))

pub returns-in_ok-go_to_stop-in-Some-clause-step : goal.returns-in_ok-go_to_stop-in-Some-clause-step
returns-in_ok-go_to_stop-in-Some-clause-step g c h k =
    let t = g.C.Certificate.table c.args.self.now.checked.now in
    let b = c.args.pen.now.belief in
    let bytes = rw c.in-Some.is at c.requires.route.bytes in
    steps_next g.W.Wire.went g.W.Wire.failures g.met.W.Wire.lawful c.args.pen.now.wire c.go_to_stop.new.pen.wire c.follow_leg-in-Some.new.pen.wire _ c.follow_leg-in-Some.result (IsPaint t) (length (text_of t c.in-Some.stop.line)) (leg_bytes t c.args.route.leg c.args.at.col) t.longest.cup
    (IsLost t) (Agrees t h b) (Agrees t h c.go_to_stop.new.pen.belief) (Agrees t h c.follow_leg-in-Some.new.pen.belief) (omega (arith, bytes, c.requires.route.short))
    (c.in_ok-go_to_stop-in-Some.ensures.step h) (c.follow_leg-in-Some.ensures.step h k)
