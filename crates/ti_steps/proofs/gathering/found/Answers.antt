use Rattle.std.proofs.Common.{List, subst}
use Rattle.std.proofs.lemmas.Result.{IfOk-weaker}
use Rattle.ti_steps.specs.Remedies.{ArePlaced, IsAdvisedAt}
use Rattle.ti_steps.specs.declared.advice.Advice.{Advice}
use Rattle.ti_steps.proofs.gathering.found.Goals as goal

pub returns-clause-advised : goal.returns-clause-advised
returns-clause-advised g c =
    IfOk-weaker c.all_placed.result _ _
    (λ remedies h. IsAdvisedAt.Resolved c.in_ok-entry.entry c.in_ok-entry.ensures.entry c.in_ok-advices.advices.items c.in_ok-advices.ensures.advised
    (subst (λ (advices : List Advice). ArePlaced c.args.index.now.raws.now c.args.root advices remedies.items) c.as_slice.ensures.value h))
    c.all_placed.ensures.placed
