use Rattle.std.proofs.Common.{◌+◌, arith}
use Rattle.cur_paint.proofs.Mixtures.{all_grows, all_more}
use Rattle.cur_paint.proofs.Ranges.{span_within}
use Rattle.cur_paint.proofs.screens.Screens.first_differs.Goals as goal

pub returns : goal.returns
returns g c e =
    let t = g.C.Certificate.table c.args.self.now.checked.now in
    let old = g.O.Picture.cells c.args.self.now.old.now in
    let new = g.N.Picture.cells c.args.self.now.new.now in
    let row = c.lines-lines.result.from in
    let x = c.columns-columns.result in
    let cols = c.cols-cols.result in
    let here = span_within old new row x.from x.end cols (c.columns-columns.ensures.same old new c.requires.compared.changes) c.columns-columns.ensures.order c.columns-columns.ensures.within in
    let line = rw c.cols-cols.ensures.value at here in
    let grows = all_grows old new t.cols (row + 1) t.rows (omega (arith, c.if-lines.false, c.lines-lines.ensures.order, c.lines-lines.ensures.within, c.rows.ensures.value)) in
    omega (arith, c.differs_in.ensures e, line, all_more old new t.cols row, grows)
