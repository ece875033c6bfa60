use Rattle.vt_term.proofs.Runs.{sticks_first}
use Rattle.vt_term.proofs.laws.sticks_first.Goals as goal

pub returns : goal.returns
returns c = sticks_first
