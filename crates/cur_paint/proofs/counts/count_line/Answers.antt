use Rattle.std.proofs.Common.{◌∙◌}
use Rattle.cur_paint.proofs.Ranges.{span_within}
use Rattle.cur_paint.proofs.counts.count_line.Goals as goal

pub returns-clause-value : goal.returns-clause-value
returns-clause-value g c =
    let old = g.O.Picture.cells c.args.old.now in
    let new = g.N.Picture.cells c.args.new.now in
    let x = c.columns-columns.result in
    c.count_columns.ensures.value ∙ span_within old new c.args.row x.from x.end c.args.cols (c.columns-columns.ensures.same old new c.requires.changes) c.columns-columns.ensures.order c.columns-columns.ensures.within
