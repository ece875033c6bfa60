use Rattle.std.proofs.Common.{below_more, arith}
use Rattle.ti_fixes.proofs.Changed.{changed_at}
use Rattle.ti_fixes.proofs.differences.first_difference.Goals as goal

-- one more entry has the changes for its place
pub loop-place-preserved : goal.loop-place-preserved
loop-place-preserved c = below_more _ _ c.loop-place.invariant
    (changed_at c.args.changes.now c.args.olds.now c.args.news.now c.loop-place.place c.index-olds-place.result c.index-news-place.result
    (omega arith) (omega arith) c.index-olds-place.is c.index-news-place.is (c.in_ok-is_changed_by.ensures c.if-not-branch.false))

-- all have them
pub returns : goal.returns
returns c = λ none. record { as_many = omega arith; each = λ place l. c.loop-place.invariant place (omega (arith, l)) }
