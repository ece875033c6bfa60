use Rattle.cur_steps.proofs.Prints.{print_steps}
use Rattle.cur_steps.proofs.pens.Pen.print_at.Goals as goal

pub returns-clause-step : goal.returns-clause-step
returns-clause-step g c h =
    let t = g.C.Certificate.table c.args.checked.now in
    print_steps g.W.Wire.went g.W.Wire.failures c.args.self.now.wire c.send_all.new.wire c.send_all.result t c.requires.goal.checked h c.args.self.now.belief c.args.at.row c.args.at.col c.args.ink
    c.requires.goal.row c.requires.goal.col c.requires.printed (record { place = c.requires.place; brush = c.requires.brush; set = c.requires.set }) c.send_all.ensures.sends
