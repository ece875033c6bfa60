use Rattle.std.proofs.lemmas.Result.{IfOk-weaker}
use Rattle.ti_advice.proofs.RunFacts.{ends_same, ends_elsewhere, ends_stuck}
use Rattle.ti_advice.proofs.runs.ends_alike.Goals as goal

pub returns-in-Ok-clause-alike : goal.returns-in-Ok-clause-alike
returns-in-Ok-clause-alike c =
    IfOk-weaker c.is_same.result _ _ (λ so seen e. ends_same c.args.first.now _ _ c.args.other.now so c.in_ok-second.ensures c.in-Ok.ensures.ok seen e) c.is_same.ensures

pub returns-in-Ok-clause-unlike : goal.returns-in-Ok-clause-unlike
returns-in-Ok-clause-unlike c =
    IfOk-weaker c.is_same.result _ _ (λ so seen e. ends_elsewhere c.args.first.now _ _ c.args.other.now so c.in_ok-second.ensures c.in-Ok.ensures.ok seen e) c.is_same.ensures

pub returns-clause-unlike : goal.returns-clause-unlike
returns-clause-unlike c = λ e. ends_stuck c.args.first.now _ _ c.args.other.now _ c.in_ok-second.ensures c.in-Err.ensures.stuck
