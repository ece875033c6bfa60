-- The lists are equal from this place on.
use Rattle.std.proofs.Common.{◌≤◌, length}
use Rattle.cur_screens.specs.Differences.{AreEqualIn}
use Rattle.cur_screens.proofs.differences.same_back.Given as goal

abbrev pub invariant-loop-end : goal.invariant-loop-end
invariant-loop-end l = (l.end ≤ length l.a) × AreEqualIn l.a l.b l.end (length l.a)

abbrev pub decreases-loop-end : goal.decreases-loop-end
decreases-loop-end l = l.end
