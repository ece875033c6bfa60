use Rattle.std.proofs.Common.{◌≡◌, ◌≤◌, ◌<◌, ℕ}
use Rattle.cur_steps.specs.Inks.{blank_ink}
use Rattle.cur_steps.proofs.blanks.are_blank.Given as goal

abbrev pub invariant-loop-col : goal.invariant-loop-col
invariant-loop-col g l = record {
  blank : (k : ℕ) → l.from ≤ k → k < l.col → g.P.Picture.cells l.screen l.row k ≡ blank_ink;
}
