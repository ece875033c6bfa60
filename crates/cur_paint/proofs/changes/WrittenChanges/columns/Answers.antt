use Rattle.cur_paint.proofs.Ranges.{written_same}
use Rattle.cur_paint.proofs.changes.WrittenChanges.columns.Goals as goal

pub returns-clause-same : goal.returns-clause-same
returns-clause-same g c old new h =
    let x = c.columns_written.result in
    written_same (g.N.Picture.cells c.args.self.now.new.now) old new c.args.row x.from x.end c.args.cols h c.columns_written.ensures.start c.columns_written.ensures.blank
