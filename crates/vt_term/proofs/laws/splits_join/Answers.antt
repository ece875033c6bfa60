use Rattle.vt_term.proofs.Splits.{splits_append}
use Rattle.vt_term.proofs.laws.splits_join.Goals as goal

pub returns : goal.returns
returns c = λ a b ts us r q h k. splits_append a ts us r b q h k
