use Rattle.std.proofs.Common.{length, ap, arith}
use Rattle.ti_conforms.specs.Certified.{or_nothing}
use Rattle.cur_steps.proofs.Actions.{line_leading, line_sent, line_spelled, line_steps}
use Rattle.cur_steps.proofs.lines.send_line.Goals as goal

pub returns : goal.returns
returns g c =
    let t = g.C.Certificate.table c.args.checked.now in
    let same = ap or_nothing c.requires.line in
    record {
      exact = λ n x y b d paint le turns. line_sent g.W.Wire.went g.W.Wire.failures c.args.wire.now c.send_all.new.wire c.send_all.result t c.requires.checked c.args.row c.args.bytes.now c.requires.line paint
          n x y b d (omega (arith, le, ap length same)) turns c.send_all.ensures.sends;
      step = λ n x y b d paint le turns. line_steps g.W.Wire.went g.W.Wire.failures c.args.wire.now c.send_all.new.wire c.send_all.result t c.requires.checked c.args.row c.args.bytes.now c.requires.line paint
          n x y b d le turns c.send_all.ensures.sends;
      leads = λ n x y b d paint le leads. line_leading g.W.Wire.went g.W.Wire.failures c.args.wire.now c.send_all.new.wire c.send_all.result t c.requires.checked c.args.row c.args.bytes.now c.requires.line paint
          n x y b d le leads c.send_all.ensures.sends;
      text = λ b d turns h. line_spelled g.W.Wire.went g.W.Wire.failures c.args.wire.now c.send_all.new.wire c.send_all.result t c.requires.checked c.args.row c.args.bytes.now c.requires.line
          h b d (turns h) c.send_all.ensures.sends;
    }
