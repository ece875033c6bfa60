use Rattle.cur_paint.proofs.Ranges.{incoming_same, moved_same}
use Rattle.cur_paint.proofs.changes.MovedChanges.columns.Goals as goal

pub returns-in-None-clause-same : goal.returns-in-None-clause-same
returns-in-None-clause-same g c h new m =
    let x = c.columns_written.result in
    incoming_same (g.D.Changes.between c.args.self.now.changes.now) c.args.self.now.scroll (g.N.Picture.cells c.args.self.now.new.now) h new c.args.row x.from x.end c.args.cols c.line_before.result m c.in-None.is
    c.columns_written.ensures.start (λ j. c.line_before.ensures m.old j) c.columns_written.ensures.blank
