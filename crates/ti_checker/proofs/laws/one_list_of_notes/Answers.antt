use Rattle.ti_checker.proofs.Once.{one_list}
use Rattle.ti_checker.proofs.laws.one_list_of_notes.Goals as goal

pub returns : goal.returns
returns c = one_list
