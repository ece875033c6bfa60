use Rattle.std.proofs.Common.{below_more, sym, ◌∙◌}
use Rattle.ti_advice.proofs.pictures.first_other.Goals as goal

pub loop-letter-preserved : goal.loop-letter-preserved
loop-letter-preserved c = below_more _ _ c.loop-letter.invariant (sym c.is_other.ensures ∙ c.if-is_other.false)
