use Rattle.std.proofs.Common.{below_more, rules}
use Rattle.ti_conforms.proofs.CupReaches.{first_missed}
use Rattle.ti_conforms.proofs.cup_reach.reach_cup.Goals as goal

pub loop-row-preserved : goal.loop-row-preserved
loop-row-preserved c = below_more _ _ c.loop-row.invariant c.in_ok-reach_row.ensures.reached

pub returns-in_err-reach_row-clause-first : goal.returns-in_err-reach_row-clause-first
returns-in_err-reach_row-clause-first c =
    let told = first_missed _ _ _ c.loop-row.row c.in_err-reach_row.field-0.0 c.loop-row.invariant c.in_err-reach_row.ensures.row c.in_err-reach_row.ensures.first in
    search rules
