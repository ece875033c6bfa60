use Rattle.ti_source.proofs.Stretching as Stretching
use Rattle.ti_source.proofs.apart.whole_is_together.Goals as goal

pub returns-clause-whole : goal.returns-clause-whole
returns-clause-whole c = Stretching.whole_is_together

pub returns-clause-faultless : goal.returns-clause-faultless
returns-clause-faultless c = Stretching.faultless_is_apart
