use Rattle.ti_conforms.proofs.Pairs.{skipped}
use Rattle.ti_conforms.proofs.partners.listed.Goals as goal

pub loop-pairs-preserved : goal.loop-pairs-preserved
loop-pairs-preserved c = skipped c.loop-pairs.pairs.now c.args.letter _ c.in-len2-up.len_at_least c.if-other-letter.false c.loop-pairs.invariant
