use Rattle.ti_conforms.proofs.Fronts.{fronts_stay, wholes_stay}
use Rattle.ti_conforms.proofs.laws.fronts_stay.Goals as goal

pub returns-clause-front : goal.returns-clause-front
returns-clause-front c = fronts_stay

pub returns-clause-whole : goal.returns-clause-whole
returns-clause-whole c = wholes_stay
