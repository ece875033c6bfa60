use Rattle.ti_surveys.proofs.Faultless as Faultless
use Rattle.ti_surveys.proofs.laws.faultless_is_whole.Goals as goal

pub returns : goal.returns
returns c = Faultless.faultless_is_whole
