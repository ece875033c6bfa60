use Rattle.std.proofs.Common.{take}
use Rattle.ti_checker.specs.Kept.{unnamed}
use Rattle.ti_checker.specs.Resync.{SendsAll}
use Rattle.ti_checker.proofs.resync.sent_for_all.Given as goal

abbrev pub invariant-loop-row : goal.invariant-loop-row
invariant-loop-row l = SendsAll l.entry l.size.rows l.size.cols (unnamed l.left_out) (take l.row-index l.rows) l.text.items
