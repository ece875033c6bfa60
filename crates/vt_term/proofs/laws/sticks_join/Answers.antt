use Rattle.vt_term.proofs.Runs.{sticks_behind}
use Rattle.vt_term.proofs.laws.sticks_join.Goals as goal

pub returns : goal.returns
returns c = sticks_behind
