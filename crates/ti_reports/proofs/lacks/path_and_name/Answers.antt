use Rattle.ti_commands.proofs.Colons.{last_colon, no_colon}
use Rattle.ti_reports.proofs.lacks.path_and_name.Goals as goal

pub returns-clause-parts : goal.returns-clause-parts
returns-clause-parts c = last_colon c.args.word.now c.rsplit_once.result c.rsplit_once.ensures.cases

pub returns-clause-whole : goal.returns-clause-whole
returns-clause-whole c = no_colon c.args.word.now c.rsplit_once.result c.rsplit_once.ensures.cases
