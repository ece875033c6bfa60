use Rattle.std.proofs.Common.{◌≡◌, ◌≤◌, ◌<◌, ℕ}
use Rattle.cur_steps.specs.Inks.{blank_ink}
use Rattle.cur_steps.proofs.blanks.first_solid.Given as goal

abbrev pub invariant-loop-row : goal.invariant-loop-row
invariant-loop-row g l = record {
  blank : (i j : ℕ) → l.from ≤ i → i < l.row → j < l.cols → g.P.Picture.cells l.screen i j ≡ blank_ink;
}
