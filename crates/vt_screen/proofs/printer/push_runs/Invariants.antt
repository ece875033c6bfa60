-- The runs that end before this column are written, and `start` is the column where the run of the preceding column
-- begins.
use Rattle.std.proofs.Common.{◌≡◌, ℕ, ◌+◌, ◌++◌}
use Rattle.vt_screen.specs.Printed as spec
use Rattle.vt_screen.proofs.printer.push_runs.Given as goal

abbrev pub invariant-loop-col : goal.invariant-loop-col
invariant-loop-col l = record {
  start : (k : ℕ) → k + 1 ≡ l.col → l.start ≡ spec.run_start l.cells k;
  text : l.text.items ≡ l.fn.text.items ++ spec.runs_text l.row l.cells l.col;
}
