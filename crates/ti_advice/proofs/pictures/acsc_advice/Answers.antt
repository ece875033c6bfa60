use Rattle.ti_advice.proofs.pictures.acsc_advice.Goals as goal

pub returns-in-Some : goal.returns-in-Some
returns-in-Some c = rw c.in-Some.is c.pairs_advice.ensures
