use Rattle.std.proofs.lemmas.Result.{err_from_is_err_and}
use Rattle.ti_rows.specs.declared.rows.Row.TheVariants.{Clear}
use Rattle.cur_steps.proofs.Answers.{line_is}
use Rattle.cur_paint.proofs.Renewals.{clear_cut, clear_then}
use Rattle.cur_paint.proofs.painters.Painter.clear_first.Goals as goal

pub returns-in_err-send_all-clause-step : goal.returns-in_err-send_all-clause-step
returns-in_err-send_all-clause-step g c line is shown =
    let e = err_from_is_err_and c.from_residual.result c.from_residual.ensures.1 in
    let t = g.C.Certificate.table c.args.self.now.screens.now.checked.now in
    let its = line_is t Clear c.line.result c.unwrap.result c.unwrap.ensures c.line.ensures.value in
    rw e.1 (clear_cut g.W.Wire.went g.W.Wire.failures c.args.self.now.pen.now.wire c.send_all.new.wire _ t c.unwrap.result.now line shown (g.N.Picture.cells c.args.self.now.screens.now.new.now) c.args.self.now.pen.now.belief c.args.wanted
    c.requires.can.scene.checked its is c.requires.rested.brush c.in_err-send_all.ensures.sends)

pub returns-clause-step : goal.returns-clause-step
returns-clause-step g c line is shown =
    let t = g.C.Certificate.table c.args.self.now.screens.now.checked.now in
    let z = c.paint_all.new.self in
    clear_then g.W.Wire.went g.W.Wire.failures g.met.W.Wire.lawful c.args.self.now.pen.now.wire c.send_all.new.wire z.pen.now.wire c.paint_all.result t c.unwrap.result.now line shown (g.N.Picture.cells c.args.self.now.screens.now.new.now) c.args.self.now.pen.now.belief z.pen.now.belief c.args.wanted
    c.requires.can.scene.checked (line_is t Clear c.line.result c.unwrap.result c.unwrap.ensures c.line.ensures.value) is c.requires.rested.brush c.in_ok-send_all.ensures.sends c.paint_all.ensures.ends.step
