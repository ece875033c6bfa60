use Rattle.std.proofs.Common.{◌≡◌, ◌≤◌, ◌-◌}
use Rattle.cur_paint.specs.Differ.{span}
use Rattle.cur_paint.proofs.counts.count_many.Given as goal

abbrev pub invariant-loop-done : goal.invariant-loop-done
invariant-loop-done g l = record {
  within : l.done ≤ l.columns.end - l.columns.from;
  count : l.count ≡ span (g.O.Picture.cells l.old) (g.N.Picture.cells l.new) l.row l.columns.from l.done;
  few : l.count ≤ l.done;
}

abbrev pub decreases-loop-done : goal.decreases-loop-done
decreases-loop-done g l = l.columns.end - l.columns.from - l.done
