use Rattle.ti_lines.proofs.HeadsRead.{size_found}
use Rattle.ti_lines.proofs.heads.read_size_line.Goals as goal

pub returns-clause-found : goal.returns-clause-found
returns-clause-found c = size_found c.args.text.now c.size_in.result c.size_in.ensures
