use Rattle.ti_sources.proofs.Faultless as Faultless
use Rattle.ti_sources.proofs.resolution.faultless_are_resolved.Goals as goal

pub returns : goal.returns
returns c = Faultless.faultless_are_resolved
