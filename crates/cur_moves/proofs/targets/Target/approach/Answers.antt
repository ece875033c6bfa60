use Rattle.std.proofs.Common.{◌*◌}
use Rattle.cur_steps.proofs.Stops.{steps_none, steps_wider}
use Rattle.ti_conforms.specs.Certified.{IsLost}
use Rattle.cur_steps.specs.Pieces.{IsPaint}
use Rattle.cur_steps.specs.Beliefs.{Agrees, moves}
use Rattle.cur_steps.proofs.Actions.{agrees_lost}
use Rattle.cur_steps.proofs.Answers.{moves_few, at_most}
use Rattle.cur_moves.proofs.targets.Target.approach.Goals as goal

pub returns-then-wraps_to-clause-step : goal.returns-then-wraps_to-clause-step
returns-then-wraps_to-clause-step g c h k =
    let t = g.C.Certificate.table c.args.self.now.checked.now in
    let b = c.args.pen.now.belief in
    steps_none g.W.Wire.went g.W.Wire.failures g.met.W.Wire.lawful c.args.pen.now.wire tt (IsPaint t) _ (IsLost t) (Agrees t h b) (λ s x. x.ready.rest) (agrees_lost t c.requires.goal.checked h b)

pub returns-clause-step : goal.returns-clause-step
returns-clause-step g c h k =
    let t = g.C.Certificate.table c.args.self.now.checked.now in
    let b = c.args.pen.now.belief in
    steps_wider g.W.Wire.went g.W.Wire.failures c.args.pen.now.wire c.reach.new.pen.wire c.reach.result (IsPaint t) (moves b.place c.args.at.row c.args.at.col * t.longest.cup) t.longest.cup (IsLost t) (Agrees t h b) (Agrees t h c.reach.new.pen.belief) (Agrees t h b) (Agrees t h c.reach.new.pen.belief)
    (at_most _ t.longest.cup (moves_few b.place c.args.at.row c.args.at.col)) (λ s x. x) (λ s x. x) (c.reach.ensures.step h k)

pub returns-then-stands-clause-step : goal.returns-then-stands-clause-step
returns-then-stands-clause-step g c h k =
    let t = g.C.Certificate.table c.args.self.now.checked.now in
    let b = c.args.pen.now.belief in
    steps_none g.W.Wire.went g.W.Wire.failures g.met.W.Wire.lawful c.args.pen.now.wire tt (IsPaint t) _ (IsLost t) (Agrees t h b) (λ s x. x.ready.rest) (agrees_lost t c.requires.goal.checked h b)
