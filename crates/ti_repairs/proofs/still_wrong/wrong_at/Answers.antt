use Rattle.std.proofs.lemmas.Result.{IfOk-weaker}
use Rattle.ti_repairs.proofs.still_wrong.wrong_at.Goals as goal

pub returns : goal.returns
returns c =
    IfOk-weaker c.wrong_of.result _ _ (λ wrong h. record { found = c.in_ok-found.found; resolves = c.in_ok-found.ensures; is = h }) c.wrong_of.ensures
