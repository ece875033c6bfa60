use Rattle.ti_without.specs.Rounds.{NoRound}
use Rattle.ti_without.proofs.certification.by_rounds.Goals as goal

pub further_rounds-requires-clause-rounds : goal.further_rounds-requires-clause-rounds
further_rounds-requires-clause-rounds c = NoRound c.in_ok-smaller.smaller.left.items c.in_ok-smaller.ensures.left
