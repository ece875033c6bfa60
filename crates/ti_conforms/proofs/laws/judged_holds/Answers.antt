use Rattle.ti_conforms.proofs.Cuts.{judged_holds}
use Rattle.ti_conforms.proofs.laws.judged_holds.Goals as goal

pub returns : goal.returns
returns c = judged_holds
