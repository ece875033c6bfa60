use Rattle.std.proofs.Common.{length}
use Rattle.ti_without.specs.Without.{IsFound}
use Rattle.ti_without.proofs.returning.settled.Given as goal

abbrev pub invariant-loop-found : goal.invariant-loop-found
invariant-loop-found l = IsFound l.entry l.fn.size.rows l.fn.size.cols l.found

abbrev pub decreases-loop-found : goal.decreases-loop-found
decreases-loop-found l = length l.found.left_out.items
