use Rattle.std.proofs.Common.{◌≡◌, ◌≤◌, ◌<◌, ℕ}
use Rattle.cur_steps.specs.Inks.{blank_ink}
use Rattle.cur_steps.proofs.blanks.blank_from.Given as goal

abbrev pub invariant-loop-col : goal.invariant-loop-col
invariant-loop-col g l = record {
  within : l.col ≤ l.cols;
  blank : (k : ℕ) → l.col ≤ k → k < l.cols → g.P.Picture.cells l.screen l.row k ≡ blank_ink;
}

abbrev pub decreases-loop-col : goal.decreases-loop-col
decreases-loop-col g l = l.col
