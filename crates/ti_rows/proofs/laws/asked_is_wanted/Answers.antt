use Rattle.ti_rows.proofs.WantFacts.{asked_is_wanted}
use Rattle.ti_rows.proofs.laws.asked_is_wanted.Goals as goal

pub returns : goal.returns
returns c = asked_is_wanted
