use Rattle.std.proofs.Common.{arith}
use Rattle.ti_diffs.proofs.CommonFacts.{all_common}
use Rattle.ti_diffs.proofs.pieces.common.Goals as goal

pub returns-then-place-new-clause-count : goal.returns-then-place-new-clause-count
returns-then-place-new-clause-count c = all_common _ c.loop-place.place _ c.args.new.now c.loop-place.invariant.0 (omega (arith, c.if-place-new.true))
