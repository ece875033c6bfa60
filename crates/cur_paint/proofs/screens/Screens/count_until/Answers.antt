use Rattle.std.proofs.Common.{refl, arith}
use Rattle.cur_paint.proofs.LineRanges.{none_before, none_past}
use Rattle.cur_paint.proofs.screens.Screens.count_until.Goals as goal

pub returns-clause-value : goal.returns-clause-value
returns-clause-value g c e =
    let t = g.C.Certificate.table c.args.self.now.checked.now in
    let old = g.O.Picture.cells c.args.self.now.old.now in
    let new = g.N.Picture.cells c.args.self.now.new.now in
    let x = c.lines-lines.result in
    let outside = c.lines-lines.ensures.same old new c.requires.compared.changes in
    omega (
      arith,
      c.count_lines.ensures.value e,
      none_before old new x c.rows.result c.cols.result t.rows t.cols outside c.rows.ensures.value c.cols.ensures.value,
      none_past old new x x.end c.rows.result c.cols.result t.rows t.cols outside c.lines-lines.ensures.within refl c.rows.ensures.value c.cols.ensures.value,
    )

pub returns-clause-within : goal.returns-clause-within
returns-clause-within g c =
    let t = g.C.Certificate.table c.args.self.now.checked.now in
    let old = g.O.Picture.cells c.args.self.now.old.now in
    let new = g.N.Picture.cells c.args.self.now.new.now in
    let x = c.lines-lines.result in
    let outside = c.lines-lines.ensures.same old new c.requires.compared.changes in
    omega (
      arith,
      c.count_lines.ensures.within,
      none_before old new x c.rows.result c.cols.result t.rows t.cols outside c.rows.ensures.value c.cols.ensures.value,
      none_past old new x x.end c.rows.result c.cols.result t.rows t.cols outside c.lines-lines.ensures.within refl c.rows.ensures.value c.cols.ensures.value,
    )
