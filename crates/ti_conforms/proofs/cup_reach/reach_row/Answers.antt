use Rattle.std.proofs.Common.{below_more}
use Rattle.ti_conforms.proofs.cup_reach.reach_row.Goals as goal

pub loop-col-preserved : goal.loop-col-preserved
loop-col-preserved c = below_more _ _ c.loop-col.invariant c.in-Ok.ensures.reached
