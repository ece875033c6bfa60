use Rattle.vt_effects.proofs.Sounds.{record_right, runs_right, all_gone}
use Rattle.vt_effects.proofs.records.effect_of.Goals as goal

pub returns-clause-steps : goal.returns-clause-steps
returns-clause-steps c = record_right c.args.size.rows c.args.size.cols c.args.start.now c.args.tokens.now c.loop-token.effect
    (all_gone c.args.size.rows c.args.size.cols c.args.start.now c.args.tokens.now c.loop-token.token-index c.loop-token.effect c.loop-token-test.false c.loop-token.invariant)

pub returns-clause-runs : goal.returns-clause-runs
returns-clause-runs c = runs_right c.args.size.rows c.args.size.cols c.args.start.now c.args.tokens.now c.loop-token.effect
    (all_gone c.args.size.rows c.args.size.cols c.args.start.now c.args.tokens.now c.loop-token.token-index c.loop-token.effect c.loop-token-test.false c.loop-token.invariant)
