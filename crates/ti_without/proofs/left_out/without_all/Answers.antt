use Rattle.std.proofs.Common.{sym, arith, ◌∙◌}
use Rattle.ti_without.proofs.Less.{less_next}
use Rattle.ti_without.proofs.left_out.without_all.Goals as goal

pub loop-one-preserved : goal.loop-one-preserved
loop-one-preserved c =
    c.without-smaller.ensures.value ∙ less_next c.args.entry.now c.loop-one.smaller c.args.left.now c.loop-one.one-index c.one-item.result (omega arith) (sym c.one-item.is) c.loop-one.invariant
