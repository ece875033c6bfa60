use Rattle.std.proofs.Common.{◌∙◌, sym, arith, length-take, take}
use Rattle.std.proofs.lemmas.List.{get_or-take}
use Rattle.cur_steps.proofs.Types.{text_steps}
use Rattle.cur_moves.proofs.targets.Target.print_text.Goals as goal

pub returns-clause-step : goal.returns-clause-step
returns-clause-step g c old =
    let t = g.C.Certificate.table c.args.self.now.checked.now in
    let x = c.args.cells in
    let n = x.count in
    let text = c.args.text.now in
    text_steps g.W.Wire.went g.W.Wire.failures c.args.pen.now.wire c.send_all.new.wire c.send_all.result t c.rows.ensures.checked old (g.N.Picture.cells c.args.self.now.shown.now) c.requires.drawable c.args.pen.now.belief x.row x.from n (take n text)
    (omega (arith, length-take n text, c.requires.long)) c.requires.row c.requires.within c.requires.alike (λ k lt. c.requires.bytes k lt ∙ sym (get_or-take n text k 0 lt)) c.requires.place c.send_all.ensures.sends
