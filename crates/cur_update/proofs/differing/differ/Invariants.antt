use Rattle.std.proofs.Common.{◌*◌}
use Rattle.cur_update.specs.Differ.{in_lines}
use Rattle.cur_update.proofs.Tallies.{Counted}
use Rattle.cur_update.proofs.differing.differ.Given as goal

abbrev pub invariant-loop-row : goal.invariant-loop-row
invariant-loop-row l = Counted l.count (in_lines l.old l.new l.cols l.row) (l.row * 500)
