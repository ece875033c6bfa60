use Rattle.ti_rows.proofs.NameFacts.{names_rise}
use Rattle.ti_rows.proofs.laws.names_rise.Goals as goal

pub returns : goal.returns
returns c = names_rise
