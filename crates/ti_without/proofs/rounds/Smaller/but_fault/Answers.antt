use Rattle.std.proofs.Common.{◌≡◌, true, not, sym, ap, ◌∙◌}
use Rattle.ti_without.specs.Rounds.{counts}
use Rattle.ti_without.proofs.Leaves.{fault_out, for_one, for_then, itself}
use Rattle.ti_without.proofs.rounds.Smaller.but_fault.Goals as goal

pub returns-clause-leaves : goal.returns-clause-leaves
returns-clause-leaves c =
    let counted : counts c.args.no.now ≡ true = ap not (sym c.waits.ensures ∙ c.if-waits.false) in
    for_then c.args.self c.in_ok-single.single c.in_ok-smaller.smaller c.args.no.now
    (for_one c.args.self c.args.no.now.cap c.args.no.now c.in_ok-single.single counted (itself c.args.no.now.cap) c.in_ok-single.ensures) c.in_ok-smaller.ensures.leaves

pub returns-clause-lacks : goal.returns-clause-lacks
returns-clause-lacks c = fault_out c.args.self c.in_ok-single.single c.in_ok-smaller.smaller c.args.no.now c.in_ok-single.ensures c.in_ok-smaller.ensures.leaves c.in_ok-smaller.ensures.lacks
