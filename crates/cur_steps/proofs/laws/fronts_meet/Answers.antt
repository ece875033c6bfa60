use Rattle.cur_steps.proofs.Leads.{meet}
use Rattle.cur_steps.proofs.laws.fronts_meet.Goals as goal

pub returns : goal.returns
returns c = meet
