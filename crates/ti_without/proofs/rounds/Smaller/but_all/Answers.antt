use Rattle.std.proofs.Common.{sym, arith}
use Rattle.ti_without.proofs.Leaves.{all_next, all_none}
use Rattle.ti_without.proofs.rounds.Smaller.but_all.Goals as goal

pub loop-no-init : goal.loop-no-init
loop-no-init c = all_none c.args.self

pub loop-no-preserved : goal.loop-no-preserved
loop-no-preserved c =
    all_next c.args.self c.args.nos.now c.loop-no.no-index c.no-item.result c.loop-no.smaller c.in_ok-smaller.smaller (omega arith) (sym c.no-item.is)
    c.loop-no.invariant c.in_ok-smaller.ensures.leaves c.in_ok-smaller.ensures.lacks
