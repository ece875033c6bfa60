use Rattle.ti_conforms.proofs.Reaches.{learned}
use Rattle.ti_conforms.proofs.reach.Reach.learn_all.Goals as goal

pub loop-token-preserved : goal.loop-token-preserved
loop-token-preserved c = learned c.loop-token.self c.learn.new.self c.args.tokens.now c.loop-token.token-index _ _ _ c.loop-token-test.true c.token-item.is c.learn.ensures c.loop-token.invariant
