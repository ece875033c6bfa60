use Rattle.std.proofs.Common.{◌≤◌, ◌-◌}
use Rattle.cur_paint.proofs.runs.run_at.Given as goal

abbrev pub invariant-loop-run : goal.invariant-loop-run
invariant-loop-run g l = record {
  order : l.run.start ≤ l.run.end;
  within : l.run.end ≤ l.run.len;
  len : l.run.len ≤ l.cells.count;
  differing : l.run.differing ≤ l.run.len;
}

abbrev pub decreases-loop-run : goal.decreases-loop-run
decreases-loop-run g l = l.cells.count - l.run.len
