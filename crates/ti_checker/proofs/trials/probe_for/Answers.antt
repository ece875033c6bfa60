use Rattle.std.proofs.Common.{arith, below_more}
use Rattle.ti_checker.proofs.Complete.{always_wanted}
use Rattle.ti_checker.proofs.trials.probe_for.Goals as goal

pub loop-number-preserved : goal.loop-number-preserved
loop-number-preserved c = below_more _ _ c.loop-number.invariant c.in_default.ensures.wanted

pub returns-clause-wanted : goal.returns-clause-wanted
returns-clause-wanted c = always_wanted c.args.size.rows c.args.size.cols c.args.taught c.args.row c.args.effect.now c.args.size.limits c.requires (λ k lt. c.loop-number.invariant k (omega (arith, lt)))
