use Rattle.std.proofs.Common.{◌≡◌, ℕ, arith, below_more, subst}
use Rattle.ti_caps.specs.Entry.{value_at}
use Rattle.ti_steps.proofs.entries.same_values.Goals as goal

-- one more capability has the same value in both
pub loop-rank-preserved : goal.loop-rank-preserved
loop-rank-preserved c = below_more _ _ c.loop-rank.invariant (c.same_at.ensures c.if-not-same_at.false)

-- each capability has a rank
pub returns : goal.returns
returns c = λ _ place l.
    let ranked = c.ranks_order_names.ensures.each place l in
    subst (λ (p : ℕ). value_at c.args.one.now p ≡ value_at c.args.other.now p) ranked.2 (c.loop-rank.invariant ranked.0 (omega (arith, ranked.1)))
