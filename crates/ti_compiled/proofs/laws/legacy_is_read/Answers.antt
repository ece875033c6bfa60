use Rattle.ti_compiled.proofs.Legacies as legacies
use Rattle.ti_compiled.proofs.laws.legacy_is_read.Goals as goal

pub returns : goal.returns
returns c = legacies.legacy_is_read
