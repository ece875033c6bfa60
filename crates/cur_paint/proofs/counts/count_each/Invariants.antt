use Rattle.std.proofs.Common.{◌≡◌, ◌≤◌}
use Rattle.cur_paint.specs.Differ.{span}
use Rattle.cur_paint.proofs.counts.count_each.Given as goal

abbrev pub invariant-loop-n : goal.invariant-loop-n
invariant-loop-n g l = record {
  count : l.count ≡ span (g.O.Picture.cells l.old) (g.N.Picture.cells l.new) l.row l.columns.from l.n;
  few : l.count ≤ l.n;
}
