use Rattle.ti_parm.proofs.Expansion.{meaning-plain, sent-plain}
use Rattle.ti_parm.proofs.run.plain_text_is_itself.Goals as goal

pub returns-clause-written : goal.returns-clause-written
returns-clause-written c = meaning-plain

pub returns-clause-sent : goal.returns-clause-sent
returns-clause-sent c = sent-plain
