use Rattle.std.proofs.Common.{◌≡◌, ◌-◌}
use Rattle.ti_rows.specs.Lists.{IsInRange, rank, count}
use Rattle.ti_rows.specs.Names.{order}
use Rattle.ti_checker.specs.Kept.{unnamed}
use Rattle.ti_checker.specs.Switches.{IsSeen}
use Rattle.ti_checker.proofs.kept.see_cap.Given as goal

abbrev pub invariant-loop-cause : goal.invariant-loop-cause
invariant-loop-cause l = record {
  range : IsInRange l.size.rows l.size.cols l.row;
  same : order l.row ≡ order l.fn.first;
  seen : IsSeen l.entry l.size.rows l.size.cols (unnamed l.left_out) l.seen.reach l.seen.changes.items (order l.row) (rank l.size.rows l.size.cols l.row);
}

abbrev pub decreases-loop-cause : goal.decreases-loop-cause
decreases-loop-cause l = count l.size.rows l.size.cols l.row - rank l.size.rows l.size.cols l.row
