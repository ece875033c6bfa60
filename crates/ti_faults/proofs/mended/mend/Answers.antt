use Rattle.std.proofs.lemmas.Result.{IfOk-weaker}
use Rattle.ti_faults.specs.Mended.{OfRow}
use Rattle.ti_faults.proofs.mended.mend.Goals as goal

pub returns-in-Some : goal.returns-in-Some
returns-in-Some c = IfOk-weaker c.mend_row.result _ _ (λ changed h. OfRow c.in-Some.row c.in-Some.ensures.found h) c.mend_row.ensures
