use Rattle.ti_lines.proofs.laws.composed_plain.Goals as goal
use Rattle.ti_lines.proofs.Plains.{composed_plain}

pub returns : goal.returns
returns c = composed_plain
