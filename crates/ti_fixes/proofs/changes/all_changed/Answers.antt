use Rattle.std.proofs.Common.{arith}
use Rattle.ti_fixes.specs.Cuts.{whole}
use Rattle.ti_fixes.proofs.Changed.{none_written, written_next}
use Rattle.ti_fixes.proofs.changes.all_changed.Goals as goal

pub loop-change-init : goal.loop-change-init
loop-change-init c = none_written c.args.text.now (whole c.in_ok-parts.parts.items) c.in_ok-parts.ensures

-- the next change is written
pub loop-change-preserved : goal.loop-change-preserved
loop-change-preserved c =
    written_next c.args.changes.now c.loop-change.change-index c.change-item.result c.args.text.now (whole c.loop-change.parts.items) (whole c.put.new.parts.items)
    (omega arith) c.change-item.is c.loop-change.invariant (c.in_ok-done.ensures c.if-not-done.false)
