use Rattle.std.proofs.Common.{sym, arith}
use Rattle.ti_faults.proofs.Mends.{mends_next}
use Rattle.ti_faults.proofs.mended.mend_all.Goals as goal

-- one more capability is mended
pub loop-no-preserved : goal.loop-no-preserved
loop-no-preserved c =
    mends_next c.args.own.now c.args.choice c.args.nos.now c.loop-no.no-index c.no-item.result c.args.own.now c.loop-no.entry c.in_ok-entry-2.entry
    (omega arith) (sym c.no-item.is) c.loop-no.invariant c.in_ok-entry-2.ensures
