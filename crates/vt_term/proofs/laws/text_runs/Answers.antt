use Rattle.vt_term.proofs.Runs.{text_runs}
use Rattle.vt_term.proofs.laws.text_runs.Goals as goal

pub returns : goal.returns
returns c = λ s a ts e h. text_runs s a ts e h
