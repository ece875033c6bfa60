use Rattle.cur_screens.proofs.DifferenceFacts.{equal_up_to}
use Rattle.cur_screens.proofs.differences.first_diff.Goals as goal

pub loop-k-preserved : goal.loop-k-preserved
loop-k-preserved c = equal_up_to c.args.a.now c.args.b.now c.loop-k.k c.loop-k.invariant (c.same_cell.ensures.same c.if-not-same_cell.false)
