use Rattle.vt_term.proofs.Splits.{one_splitting}
use Rattle.vt_term.proofs.laws.one_splitting.Goals as goal

pub returns : goal.returns
returns c = one_splitting
