use Rattle.ti_conforms.proofs.Reaches.{can_reached, reached_can, reach_of-append}
use Rattle.ti_conforms.proofs.laws.reach_is_exact.Goals as goal

pub returns-clause-sound : goal.returns-clause-sound
returns-clause-sound c = can_reached

pub returns-clause-complete : goal.returns-clause-complete
returns-clause-complete c = reached_can

pub returns-clause-joins : goal.returns-clause-joins
returns-clause-joins c = reach_of-append
