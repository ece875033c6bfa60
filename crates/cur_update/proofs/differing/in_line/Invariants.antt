use Rattle.cur_update.specs.Differ.{in_line}
use Rattle.cur_update.proofs.Tallies.{Counted}
use Rattle.cur_update.proofs.differing.in_line.Given as goal

abbrev pub invariant-loop-col : goal.invariant-loop-col
invariant-loop-col l = Counted l.count (in_line l.old l.new l.row l.col) l.col
