use Rattle.ti_faults.proofs.Judged.{accepted_right}
use Rattle.ti_faults.proofs.laws.suggestions_are_right.Goals as goal

pub returns : goal.returns
returns c = accepted_right
