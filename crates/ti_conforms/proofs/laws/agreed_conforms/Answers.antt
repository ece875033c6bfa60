use Rattle.ti_conforms.proofs.Conformity.{agreed_conforms}
use Rattle.ti_conforms.proofs.laws.agreed_conforms.Goals as goal

pub returns : goal.returns
returns c = agreed_conforms
