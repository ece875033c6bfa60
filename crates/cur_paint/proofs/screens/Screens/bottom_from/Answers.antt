use Rattle.std.proofs.Common.{◌-◌, ◌<◌, arith}
use Rattle.cur_paint.specs.Differ.{span}
use Rattle.cur_paint.proofs.SpanFacts.{blank_differs}
use Rattle.cur_paint.proofs.screens.Screens.bottom_from.Goals as goal

pub returns-clause-differs : goal.returns-clause-differs
returns-clause-differs g c e =
    let t = g.C.Certificate.table c.args.self.now.checked.now in
    let old = g.O.Picture.cells c.args.self.now.old.now in
    let new = g.N.Picture.cells c.args.self.now.new.now in
    let row = c.args.tail.row in
    let from = c.args.tail.col in
    let x = c.are_blank.ensures.solid c.if-are_blank.false in
    let before : x.0 < t.cols = omega (arith, x.2, c.cols-cols.ensures.value) in
    blank_differs old new row from (t.cols - from) x.0 x.1 (omega (arith, before)) x.3 (c.requires.blank (omega (arith, e)) x.0 x.1 before)
