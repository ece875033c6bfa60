use Rattle.std.proofs.Common.{◌≡◌, ◌-◌}
use Rattle.ti_rows.specs.Lists.{IsInRange, rank, count}
use Rattle.ti_rows.specs.Names.{order}
use Rattle.ti_cert.specs.Order.{Precedes}
use Rattle.ti_checker.specs.First.{IsDrafted}
use Rattle.ti_checker.specs.Kept.{every}
use Rattle.ti_checker.specs.Switches.{IsSeen}
use Rattle.ti_checker.specs.Taught.{IsTaught}
use Rattle.ti_checker.proofs.drafts.push_cap.Given as goal

abbrev pub invariant-loop-cause : goal.invariant-loop-cause
invariant-loop-cause l = record {
  range : IsInRange l.size.rows l.size.cols l.row;
  same : order l.row ≡ order l.fn.first;
  taught : IsTaught l.size.rows l.size.cols l.string l.row l.looks;
  seen : IsSeen l.entry l.size.rows l.size.cols every l.draft.seen.reach l.draft.seen.changes.items (order l.row) (rank l.size.rows l.size.cols l.row);
  drafted : IsDrafted l.entry l.size.rows l.size.cols (λ other. Precedes l.size.rows l.size.cols other l.row) l.draft.text.items;
}

abbrev pub decreases-loop-cause : goal.decreases-loop-cause
decreases-loop-cause l = count l.size.rows l.size.cols l.row - rank l.size.rows l.size.cols l.row
