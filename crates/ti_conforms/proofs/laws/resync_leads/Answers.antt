use Rattle.ti_conforms.proofs.Leads.{resync_leads}
use Rattle.ti_conforms.proofs.laws.resync_leads.Goals as goal

pub returns : goal.returns
returns c = resync_leads
