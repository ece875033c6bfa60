use Rattle.cur_steps.proofs.Answers.{line_is}
use Rattle.cur_moves.proofs.FrameFacts.{row_sent}
use Rattle.cur_moves.proofs.frames.send_row.Goals as goal

pub returns : goal.returns
returns g c = record {
  step = λ n f h b paint le turns. (
      let t = g.C.Certificate.table c.args.checked.now in
      row_sent g.W.Wire.went g.W.Wire.failures c.args.wire.now c.send_all.new.wire c.send_all.result t c.requires.checked c.requires.widens c.args.row c.unwrap-line.result.now
      (line_is t c.args.row c.line.result c.unwrap-line.result c.unwrap-line.ensures c.line.ensures.value) paint n f h b le turns c.send_all.ensures.sends);
}
