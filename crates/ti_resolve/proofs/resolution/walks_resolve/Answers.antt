use Rattle.ti_resolve.proofs.FaultFacts as Faulting
use Rattle.ti_resolve.proofs.resolution.walks_resolve.Goals as goal

pub returns : goal.returns
returns c = Faulting.walks_resolve
