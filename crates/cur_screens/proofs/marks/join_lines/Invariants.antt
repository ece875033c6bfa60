-- The other marks are added in the lines visited so far.
use Rattle.cur_screens.specs.Marks.{JoinsLines}
use Rattle.cur_screens.proofs.marks.join_lines.Given as goal

abbrev pub invariant-loop-k : goal.invariant-loop-k
invariant-loop-k l = JoinsLines l.fn.marks l.other l.lines l.k l.cols l.marks
