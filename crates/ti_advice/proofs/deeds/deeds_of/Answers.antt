use Rattle.ti_advice.specs.Deeds.{IsDutyAdvice}
use Rattle.ti_advice.specs.Parts.{HasParts}
use Rattle.ti_advice.proofs.Parts.{found_next}
use Rattle.ti_advice.proofs.deeds.deeds_of.Goals as goal

pub loop-duty-init : goal.loop-duty-init
unfolding HasParts
loop-duty-init c = c.new-list.ensures.items

-- the advice on the next one follows that so far
pub loop-duty-preserved : goal.loop-duty-preserved
loop-duty-preserved c =
    found_next (IsDutyAdvice c.args.entry.now) c.args.duties.now c.loop-duty.duty-index _ c.in_ok-found.found c.loop-duty.list.items c.push_found.new.list.items c.loop-duty-test.true c.in_ok-push_found.ensures c.loop-duty.invariant c.in_ok-found.ensures
