use Rattle.std.proofs.Common.{ℕ, arith, below_more, subst}
use Rattle.ti_steps.specs.Steps.{DiffersFairly}
use Rattle.ti_steps.proofs.entries.may_differ.Goals as goal

-- one more capability has a value that changes as it may
pub loop-rank-preserved : goal.loop-rank-preserved
loop-rank-preserved c = below_more _ _ c.loop-rank.invariant (c.may_differ_at.ensures c.if-not-may_differ_at.false)

-- each capability has a rank
pub returns : goal.returns
returns c = λ _ place l.
    let ranked = c.ranks_order_names.ensures.each place l in
    subst (λ (p : ℕ). DiffersFairly c.args.change.old.now c.args.whole c.args.change.taken.now c.args.before.now c.args.after.now p) ranked.2 (c.loop-rank.invariant ranked.0 (omega (arith, ranked.1)))
