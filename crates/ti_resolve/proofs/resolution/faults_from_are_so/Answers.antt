use Rattle.ti_resolve.proofs.FaultFacts as FaultFacts
use Rattle.ti_resolve.proofs.resolution.faults_from_are_so.Goals as goal

pub returns : goal.returns
returns c = FaultFacts.faults_from_are_so
