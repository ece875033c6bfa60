use Rattle.ti_advice.specs.Keys.{IsKeyAdvice}
use Rattle.ti_advice.specs.Parts.{HasParts}
use Rattle.ti_advice.proofs.Parts.{found_next}
use Rattle.ti_advice.proofs.keys.group_advice.Goals as goal

pub loop-key-init : goal.loop-key-init
unfolding HasParts
loop-key-init c = c.new-list.ensures.items

-- the advice on the next one follows that so far
pub loop-key-preserved : goal.loop-key-preserved
loop-key-preserved c =
    found_next (IsKeyAdvice c.args.entry.now c.args.group.now) c.args.group.now c.loop-key.key-index _ c.key_advice.result c.loop-key.list.items c.push_found.new.list.items c.loop-key-test.true c.in_ok-push_found.ensures c.loop-key.invariant c.key_advice.ensures
