use Rattle.std.proofs.lemmas.Result.{IfOk-weaker}
use Rattle.ti_blames.specs.Prefixes.{closed_front}
use Rattle.ti_blames.proofs.prefixes.Open.closed_front.Goals as goal

pub returns : goal.returns
unfolding closed_front
returns c = IfOk-weaker c.closed.result _ _ (λ front says. (c.as_slice-2.result.now, says)) c.closed.ensures
