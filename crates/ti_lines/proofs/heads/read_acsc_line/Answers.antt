use Rattle.ti_lines.proofs.HeadsRead.{acsc_found, acsc_each}
use Rattle.ti_lines.proofs.heads.read_acsc_line.Goals as goal

pub returns-clause-found : goal.returns-clause-found
returns-clause-found c = acsc_found _ c.args.text.now c.acsc_in.result c.acsc_in.ensures

pub returns-clause-each : goal.returns-clause-each
returns-clause-each c = acsc_each _ c.args.text.now c.acsc_in.result c.acsc_in.ensures
