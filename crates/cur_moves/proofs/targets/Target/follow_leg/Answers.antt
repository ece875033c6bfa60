use Rattle.std.proofs.Common.{length, arith}
use Rattle.ti_conforms.specs.Certified.{text_of}
use Rattle.cur_moves.proofs.MoveFacts.{move_paints, turned}
use Rattle.cur_moves.proofs.targets.Target.follow_leg.Goals as goal

pub returns-in-By-clause-step : goal.returns-in-By-clause-step
returns-in-By-clause-step g c h k =
    let t = g.C.Certificate.table c.args.self.now.checked.now in
    let b = c.args.pen.now.belief in
    let line = c.in-By.line in
    let way = rw c.in-By.is at c.requires.leg in
    rw c.in-By.is (c.send_line.ensures.exact (length (text_of t line)) h h b _ (move_paints t.cols b.place c.args.at.row c.args.at.col line way.moves) (omega arith) (turned t h b c.args.at.row c.args.at.col c.requires.goal.row c.requires.goal.col line way.moves))
