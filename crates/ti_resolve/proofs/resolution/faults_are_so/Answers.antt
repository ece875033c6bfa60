use Rattle.ti_resolve.proofs.FaultFacts as Faulting
use Rattle.ti_resolve.proofs.resolution.faults_are_so.Goals as goal

pub returns : goal.returns
returns c = Faulting.faults_are_so
