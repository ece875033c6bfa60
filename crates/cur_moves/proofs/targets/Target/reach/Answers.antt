use Rattle.cur_steps.proofs.Stops.{steps_none}
use Rattle.ti_conforms.specs.Certified.{IsLost}
use Rattle.cur_steps.specs.Pieces.{IsPaint}
use Rattle.cur_steps.specs.Beliefs.{Agrees}
use Rattle.cur_steps.proofs.Actions.{agrees_lost}
use Rattle.cur_moves.proofs.targets.Target.reach.Goals as goal

pub returns-then-stands-clause-step : goal.returns-then-stands-clause-step
returns-then-stands-clause-step g c h k =
    let t = g.C.Certificate.table c.args.self.now.checked.now in
    let b = c.args.pen.now.belief in
    steps_none g.W.Wire.went g.W.Wire.failures g.met.W.Wire.lawful c.args.pen.now.wire tt (IsPaint t) _ (IsLost t) (Agrees t h b) (λ s x. x.ready.rest) (agrees_lost t c.rows.ensures.checked h b)
