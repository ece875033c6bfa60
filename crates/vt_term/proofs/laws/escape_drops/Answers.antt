use Rattle.vt_term.proofs.Runs.{escape_drops}
use Rattle.vt_term.proofs.laws.escape_drops.Goals as goal

pub returns : goal.returns
returns c = escape_drops
