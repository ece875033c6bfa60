use Rattle.std.proofs.Common.{arith}
use Rattle.cur_paint.proofs.Ranges.{span_on}
use Rattle.cur_paint.proofs.counts.count_each.Goals as goal

pub loop-n-preserved : goal.loop-n-preserved
loop-n-preserved g c = record {
  count = span_on (g.O.Picture.cells c.args.old.now) (g.N.Picture.cells c.args.new.now) c.args.row c.args.columns.from c.loop-n.n c.loop-n.count c.differing-count.result c.loop-n.invariant.count c.differing-count.ensures.value;
  few = omega (arith, c.loop-n.invariant.few, c.differing-count.ensures.few);
}
