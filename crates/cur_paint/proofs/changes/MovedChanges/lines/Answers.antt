use Rattle.std.proofs.Common.{arith}
use Rattle.cur_paint.proofs.LineRanges.{moved_outside}
use Rattle.cur_paint.proofs.changes.MovedChanges.lines.Goals as goal

pub returns-clause-same : goal.returns-clause-same
returns-clause-same g c h new m =
    let x = c.lines-lines.result in
    moved_outside (g.D.Changes.between c.args.self.now.changes.now) c.args.self.now.scroll (g.N.Picture.cells c.args.self.now.new.now) h new x.from x.end c.joined.result.from c.joined.result.end c.args.rows c.args.cols m
    (c.lines-lines.ensures.same m.old new m.known) c.joined.ensures.from (omega (arith, c.joined.ensures.also_from, c.region.ensures.from)) c.joined.ensures.end
    (λ i le lt. c.region.ensures.below i (omega (arith, le, c.joined.ensures.also_end)) lt)
