use Rattle.vt_term.proofs.Charsets.{act_charset}
use Rattle.vt_term.proofs.laws.steps_charset.Goals as goal

pub returns : goal.returns
returns c = act_charset
