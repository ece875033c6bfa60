use Rattle.ti_checker.specs.Kept.{unnamed}
use Rattle.ti_checker.specs.Switches.{IsSeen}
use Rattle.ti_checker.proofs.kept.seen_but.Given as goal

abbrev pub invariant-loop-place : goal.invariant-loop-place
invariant-loop-place l = IsSeen l.entry l.size.rows l.size.cols (unnamed l.left_out) l.seen.reach l.seen.changes.items l.place 0
