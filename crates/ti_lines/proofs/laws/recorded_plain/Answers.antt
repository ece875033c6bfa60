use Rattle.ti_lines.proofs.laws.recorded_plain.Goals as goal
use Rattle.ti_lines.proofs.Recorded.{recorded_plain}

pub returns : goal.returns
returns c = recorded_plain
