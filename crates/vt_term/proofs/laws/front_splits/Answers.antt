use Rattle.vt_term.proofs.Splits.{splits_front}
use Rattle.vt_term.proofs.laws.front_splits.Goals as goal

pub returns : goal.returns
returns c = λ a b h. splits_front a b h.tokens h.rest h.splits
