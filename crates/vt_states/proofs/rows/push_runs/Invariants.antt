-- The runs that end before this column are there, and `first` is the column where the run of the preceding column
-- begins.
use Rattle.std.proofs.Common.{◌≡◌, ℕ, ◌+◌}
use Rattle.vt_term.specs.Printed.{run_start}
use Rattle.vt_states.specs.Json.{runs_behind}
use Rattle.vt_states.proofs.rows.push_runs.Given as goal

abbrev pub invariant-loop-last : goal.invariant-loop-last
invariant-loop-last l = record {
  first : (k : ℕ) → k + 1 ≡ l.last → l.first ≡ run_start l.cells k;
  items : l.items.items ≡ runs_behind l.fn.items.items l.row l.cells l.last;
}
