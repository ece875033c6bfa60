use Rattle.ti_lines.proofs.LinesRead.{one_line}
use Rattle.ti_lines.proofs.laws.one_line.Goals as goal

pub returns : goal.returns
returns c = one_line
