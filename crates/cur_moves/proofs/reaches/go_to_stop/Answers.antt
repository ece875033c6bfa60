use Rattle.std.proofs.Common.{length, arith}
use Rattle.ti_conforms.specs.Certified.{text_of}
use Rattle.cur_moves.proofs.MoveFacts.{move_paints, turned}
use Rattle.cur_moves.proofs.reaches.go_to_stop.Goals as goal

pub returns-clause-step : goal.returns-clause-step
returns-clause-step g c h =
    let t = g.C.Certificate.table c.args.checked.now in
    let b = c.args.pen.now.belief in
    let stop = c.args.stop in
    c.send_line.ensures.exact (length (text_of t stop.line)) h h b _ (move_paints t.cols b.place stop.place.row stop.place.col stop.line c.requires.stop.moves) (omega arith) (turned t h b stop.place.row stop.place.col c.requires.stop.row c.requires.stop.col stop.line c.requires.stop.moves)
