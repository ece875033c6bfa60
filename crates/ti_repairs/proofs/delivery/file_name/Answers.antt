use Rattle.ti_repairs.proofs.Placings.{split_name, whole_name}
use Rattle.ti_repairs.proofs.delivery.file_name.Goals as goal

pub returns-in-Some : goal.returns-in-Some
returns-in-Some c = split_name c.args.path.now c.in-Some._folder.now c.in-Some.name.now c.in-Some.ensures.cases

pub returns-in-None : goal.returns-in-None
returns-in-None c = whole_name c.args.path.now c.in-None.ensures.cases
