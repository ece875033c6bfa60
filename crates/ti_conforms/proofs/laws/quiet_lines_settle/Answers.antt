use Rattle.ti_conforms.proofs.Leads.{quiet_settles, nothing_settles, settles_then}
use Rattle.ti_conforms.proofs.laws.quiet_lines_settle.Goals as goal

pub returns : goal.returns
returns c = record { line = quiet_settles; nothing = nothing_settles; joined = settles_then }
