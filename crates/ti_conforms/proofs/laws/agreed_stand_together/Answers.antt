use Rattle.ti_conforms.proofs.Together.{agreed_stand_together}
use Rattle.ti_conforms.proofs.laws.agreed_stand_together.Goals as goal

pub returns : goal.returns
returns c = agreed_stand_together
