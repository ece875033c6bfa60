use Rattle.std.proofs.Common.{◌+◌, arith}
use Rattle.cur_paint.proofs.Mixtures.{span_more, span_grows, found_different}
use Rattle.cur_paint.proofs.pieces.differs_in.Goals as goal

pub returns-then-not-shows : goal.returns-then-not-shows
returns-then-not-shows g c =
    let old = g.O.Picture.cells c.args.old.now in
    let new = g.N.Picture.cells c.args.new.now in
    let row = c.args.cells.row in
    let col = c.args.cells.from + c.loop-n.n in
    let e = found_different old new row col c.at.result c.at.ensures.value c.if-not-shows.ensures.value in
    λ h. omega (arith, e, span_more old new c.args.cells.row c.args.cells.from c.loop-n.n, span_grows old new c.args.cells.row c.args.cells.from (c.loop-n.n + 1) c.args.cells.count (omega arith))
