-- The lists are equal before this place.
use Rattle.cur_screens.specs.Differences.{AreEqualIn}
use Rattle.cur_screens.proofs.differences.first_diff.Given as goal

abbrev pub invariant-loop-k : goal.invariant-loop-k
invariant-loop-k l = AreEqualIn l.a l.b 0 l.k
