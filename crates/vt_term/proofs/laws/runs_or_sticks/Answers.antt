use Rattle.vt_term.proofs.Runs.{runs_or_sticks}
use Rattle.vt_term.proofs.laws.runs_or_sticks.Goals as goal

pub returns : goal.returns
returns c = runs_or_sticks
