use Rattle.vt_term.proofs.Splits.{goes_on}
use Rattle.vt_term.proofs.laws.front_tokens.Goals as goal

pub returns : goal.returns
returns c = λ front more ts us rest last h k. goes_on front ts us rest more last h k
