use Rattle.vt_term.proofs.Runs.{sticks_once}
use Rattle.vt_term.proofs.laws.one_place.Goals as goal

pub returns : goal.returns
returns c = sticks_once
