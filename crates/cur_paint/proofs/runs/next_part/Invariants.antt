use Rattle.std.proofs.Common.{◌≤◌, ◌-◌}
use Rattle.cur_paint.proofs.runs.next_part.Given as goal

abbrev pub invariant-loop-n : goal.invariant-loop-n
invariant-loop-n g l = record {
  within : l.n ≤ l.cells.count;
}

abbrev pub decreases-loop-n : goal.decreases-loop-n
decreases-loop-n g l = l.cells.count - l.n
