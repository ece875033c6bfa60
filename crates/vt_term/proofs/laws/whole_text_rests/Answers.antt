use Rattle.vt_term.proofs.Runs.{whole_text_rests}
use Rattle.vt_term.proofs.laws.whole_text_rests.Goals as goal

pub returns : goal.returns
returns c = whole_text_rests
