use Rattle.std.proofs.Common.{◌≡◌, ◌<◌, ◌-◌, ℕ}
use Rattle.vt_term.specs.Size.{max_rows, max_cols}
use Rattle.ti_rows.specs.Lists.{IsInRange, rank, count}
use Rattle.ti_rows.specs.Names.{order}
use Rattle.ti_sizes.specs.Lines.{IsSteadyAt}
use Rattle.ti_sizes.proofs.lines.check_cap.Given as goal

abbrev pub invariant-loop-next : goal.invariant-loop-next
invariant-loop-next g l = record {
  range : IsInRange max_rows max_cols l.row;
  same : order l.row ≡ order l.fn.first;
  before : (k : ℕ) → k < rank max_rows max_cols l.row → IsSteadyAt (g.L.LinesByRow.line_of l.lines) (order l.fn.first) k;
}

abbrev pub decreases-loop-next : goal.decreases-loop-next
decreases-loop-next g l = count max_rows max_cols l.row - rank max_rows max_cols l.row
