use Rattle.std.proofs.Common.{◌≡◌, ◌-◌}
use Rattle.ti_rows.specs.Lists.{IsInRange, rank, count}
use Rattle.ti_rows.specs.Names.{order}
use Rattle.ti_grades.specs.Functions.{UnknownBefore}
use Rattle.ti_grades.proofs.functions.never_known_from.Given as goal

abbrev pub invariant-loop-row : goal.invariant-loop-row
invariant-loop-row l = record {
  range : IsInRange l.size.rows l.size.cols l.row;
  same : order l.row ≡ order l.fn.first;
  earlier : UnknownBefore l.size.rows l.size.cols l.string (order l.fn.first) (rank l.size.rows l.size.cols l.row);
}

abbrev pub decreases-loop-row : goal.decreases-loop-row
decreases-loop-row l = count l.size.rows l.size.cols l.row - rank l.size.rows l.size.cols l.row
