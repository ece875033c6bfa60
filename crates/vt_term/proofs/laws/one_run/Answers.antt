use Rattle.vt_term.proofs.Runs.{runs_once}
use Rattle.vt_term.proofs.laws.one_run.Goals as goal

pub returns : goal.returns
returns c = runs_once
