use Rattle.cur_steps.proofs.Stops.{steps_none}
use Rattle.ti_conforms.specs.Certified.{IsLost}
use Rattle.cur_steps.specs.Pieces.{IsPaint}
use Rattle.cur_steps.specs.Beliefs.{Agrees}
use Rattle.cur_steps.proofs.Actions.{agrees_lost}
use Rattle.cur_moves.proofs.MoveFacts.{move_paints, turned}
use Rattle.cur_moves.proofs.reaches.reach_by_line.Goals as goal

pub returns-then-stands-clause-step : goal.returns-then-stands-clause-step
returns-then-stands-clause-step g c h =
    let t = g.C.Certificate.table c.args.checked.now in
    let b = c.args.pen.now.belief in
    steps_none g.W.Wire.went g.W.Wire.failures g.met.W.Wire.lawful c.args.pen.now.wire tt (IsPaint t) _ (IsLost t) (Agrees t h b) (λ s x. x.ready.rest) (agrees_lost t c.requires.goal.checked h b)

pub returns-clause-step : goal.returns-clause-step
returns-clause-step g c h =
    let t = g.C.Certificate.table c.args.checked.now in
    let b = c.args.pen.now.belief in
    let line = c.shortest-way.result.line in
    let way = c.shortest-way.ensures.way in
    c.send_line.ensures.exact t.longest.cup h h b _ (move_paints t.cols b.place c.args.at.row c.args.at.col line way.moves) way.short (turned t h b c.args.at.row c.args.at.col c.requires.goal.row c.requires.goal.col line way.moves)
