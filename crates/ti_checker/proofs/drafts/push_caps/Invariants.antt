use Rattle.std.proofs.Common.{◌<◌}
use Rattle.ti_rows.specs.Names.{order}
use Rattle.ti_checker.specs.First.{IsDrafted}
use Rattle.ti_checker.specs.Kept.{every}
use Rattle.ti_checker.specs.Switches.{IsSeen}
use Rattle.ti_checker.proofs.drafts.push_caps.Given as goal

abbrev pub invariant-loop-place : goal.invariant-loop-place
invariant-loop-place l = record {
  drafted : IsDrafted l.entry l.size.rows l.size.cols (λ row. order row < l.place) l.draft.text.items;
  seen : IsSeen l.entry l.size.rows l.size.cols every l.draft.seen.reach l.draft.seen.changes.items l.place 0;
}
