use Rattle.ti_parm.specs.Meaning.{meaning}
use Rattle.ti_parm.proofs.Spellings.{has-answer, one-answer}
use Rattle.ti_parm.proofs.run.strings_have_one_answer.Goals as goal

pub returns-clause-some : goal.returns-clause-some
unfolding meaning
returns-clause-some c = has-answer

pub returns-clause-one : goal.returns-clause-one
unfolding meaning
returns-clause-one c = one-answer
