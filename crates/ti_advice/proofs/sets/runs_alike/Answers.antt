use Rattle.std.proofs.Common.{◌∙◌, List, ℕ, ap}
use Rattle.std.proofs.lemmas.Result.{IfOk-weaker}
use Rattle.ti_advice.proofs.RunFacts.{alike_of, unlike_of}
use Rattle.ti_advice.proofs.sets.runs_alike.Goals as goal

pub returns-clause-alike : goal.returns-clause-alike
returns-clause-alike c =
    IfOk-weaker c.is_alike.result _ _
    (λ so told e. alike_of _ _ _ _ (c.as_slice.ensures.value ∙ c.in_ok-bytes.ensures) (c.as_slice-2.ensures.value ∙ c.in_ok-wanted.ensures) (told e))
    c.is_alike.ensures.alike

pub returns-clause-unlike : goal.returns-clause-unlike
returns-clause-unlike c =
    IfOk-weaker c.is_alike.result _ _
    (λ so told e. unlike_of _ _ _ _ (c.as_slice.ensures.value ∙ c.in_ok-bytes.ensures) (c.as_slice-2.ensures.value ∙ c.in_ok-wanted.ensures) (told e))
    c.is_alike.ensures.unlike
