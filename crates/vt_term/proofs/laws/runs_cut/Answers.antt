use Rattle.vt_term.proofs.Runs.{runs_cut}
use Rattle.vt_term.proofs.laws.runs_cut.Goals as goal

pub returns : goal.returns
returns c = runs_cut
