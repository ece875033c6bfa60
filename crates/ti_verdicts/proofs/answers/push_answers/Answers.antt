use Rattle.ti_verdicts.specs.Counts.{answer_names, cause_names}
use Rattle.ti_verdicts.proofs.answers.push_answers.Goals as goal

-- the table of the code has just these names
pub returns : goal.returns
unfolding answer_names cause_names
returns c = c.push_named.ensures
