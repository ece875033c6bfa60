use Rattle.vt_term.proofs.Runs.{whole_text_first}
use Rattle.vt_term.proofs.laws.whole_text_first.Goals as goal

pub returns : goal.returns
returns c = whole_text_first
