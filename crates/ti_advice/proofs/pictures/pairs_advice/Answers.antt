use Rattle.ti_advice.specs.Pictures.{Wrong}
use Rattle.ti_advice.proofs.pictures.pairs_advice.Goals as goal

pub returns-in-Some : goal.returns-in-Some
returns-in-Some c = Wrong c.in-Some.letter c.in-Some.ensures.some c.advice_of.ensures
