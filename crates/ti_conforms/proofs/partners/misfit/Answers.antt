use Rattle.std.proofs.Common.{below_more, sym, ◌∙◌}
use Rattle.ti_conforms.proofs.partners.misfit.Goals as goal

pub loop-letter-preserved : goal.loop-letter-preserved
loop-letter-preserved c = below_more _ _ c.loop-letter.invariant (sym c.is_misfit.ensures ∙ c.if-is_misfit.false)
