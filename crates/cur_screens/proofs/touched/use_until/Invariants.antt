-- A grid that is fully marked stays so.
use Rattle.std.proofs.Common.{◌≡◌, ◌≤◌, ◌-◌, length}
use Rattle.cur_screens.specs.Touched.{full_from}
use Rattle.cur_screens.proofs.touched.use_until.Given as goal

abbrev pub decreases-loop-used : goal.decreases-loop-used
decreases-loop-used l = l.end - l.used

abbrev pub invariant-loop-used : goal.invariant-loop-used
invariant-loop-used l = record {
  same : full_from l.used l.grids.items ≡ full_from l.fn.used l.fn.grids.items;
  size : length l.grids.items ≡ length l.fn.grids.items;
  within : l.used ≤ length l.fn.grids.items;
}
