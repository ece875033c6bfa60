use Rattle.vt_term.proofs.Runs.{run_keeps}
use Rattle.vt_term.proofs.laws.runs_keep.Goals as goal

pub returns : goal.returns
returns c = run_keeps
