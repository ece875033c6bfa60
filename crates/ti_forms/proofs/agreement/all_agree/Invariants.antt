use Rattle.std.proofs.Common.{◌≡◌, ◌<◌, ◌-◌, ℕ}
use Rattle.ti_rows.specs.Lists.{IsInRange, rank, count}
use Rattle.ti_rows.specs.Names.{order}
use Rattle.ti_conforms.specs.Agreement.{SendsAt}
use Rattle.ti_forms.proofs.agreement.all_agree.Given as goal

abbrev pub invariant-loop-bytes : goal.invariant-loop-bytes
invariant-loop-bytes g l = record {
  range : IsInRange l.size.rows l.size.cols l.row;
  same : order l.row ≡ order l.fn.first;
  before : (k : ℕ) → k < rank l.size.rows l.size.cols l.row → SendsAt l.size.rows l.size.cols l.string (g.L.LinesByRow.line_of l.lines) (order l.fn.first) k;
}

abbrev pub decreases-loop-bytes : goal.decreases-loop-bytes
decreases-loop-bytes g l = count l.size.rows l.size.cols l.row - rank l.size.rows l.size.cols l.row
