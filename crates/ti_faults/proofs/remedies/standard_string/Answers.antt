use Rattle.ti_faults.specs.Standard.{OfRow}
use Rattle.ti_faults.proofs.remedies.standard_string.Goals as goal

pub returns-in-Some : goal.returns-in-Some
returns-in-Some c = OfRow c.in-Some.row c.in-Some.ensures.found c.standard.ensures.value
