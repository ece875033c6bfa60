use Rattle.std.proofs.lemmas.Result.{IfOk-weaker}
use Rattle.ti_advice.proofs.RunFacts.{alike_from, unlike_from, unlike_stuck}
use Rattle.ti_advice.proofs.runs.is_alike.Goals as goal

pub returns-in-Ok-clause-alike : goal.returns-in-Ok-clause-alike
returns-in-Ok-clause-alike c =
    IfOk-weaker c.ends_alike.result _ _ (λ so ends e. alike_from _ _ c.args.bytes.now c.args.other.now c.in_ok-first.ensures c.in-Ok.ensures.ok (ends e)) c.ends_alike.ensures.alike

pub returns-in-Ok-clause-unlike : goal.returns-in-Ok-clause-unlike
returns-in-Ok-clause-unlike c =
    IfOk-weaker c.ends_alike.result _ _ (λ so ends e. unlike_from _ _ c.args.bytes.now c.args.other.now c.in_ok-first.ensures c.in-Ok.ensures.ok (ends e)) c.ends_alike.ensures.unlike

pub returns-clause-unlike : goal.returns-clause-unlike
returns-clause-unlike c = λ e. unlike_stuck _ _ c.args.bytes.now c.args.other.now _ c.in_ok-first.ensures c.in-Err.ensures.stuck
