use Rattle.ti_resolve.proofs.FaultFacts as Faulting
use Rattle.ti_resolve.proofs.resolution.answers_once.Goals as goal

pub returns : goal.returns
returns c = Faulting.answers_once
