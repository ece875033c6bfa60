-- The lists are equal before this place.
use Rattle.std.proofs.Common.{◌≤◌, ◌-◌, length}
use Rattle.cur_screens.specs.Differences.{AreEqualIn}
use Rattle.cur_screens.proofs.differences.same_front.Given as goal

abbrev pub invariant-loop-at : goal.invariant-loop-at
invariant-loop-at l = (l.at ≤ length l.a) × AreEqualIn l.a l.b 0 l.at

abbrev pub decreases-loop-at : goal.decreases-loop-at
decreases-loop-at l = length l.a - l.at
