use Rattle.ti_rows.proofs.ListFacts.{firsts_in_range}
use Rattle.ti_rows.proofs.laws.firsts_in_range.Goals as goal

pub returns : goal.returns
returns c = firsts_in_range
