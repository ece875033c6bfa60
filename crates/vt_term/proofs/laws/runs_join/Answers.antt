use Rattle.vt_term.proofs.Runs.{runs_append}
use Rattle.vt_term.proofs.laws.runs_join.Goals as goal

pub returns : goal.returns
returns c = runs_append
