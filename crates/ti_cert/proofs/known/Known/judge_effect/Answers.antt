use Rattle.std.proofs.Common.{sym, ◌∙◌, refl}
use Rattle.std.proofs.lemmas.Bool.{both_ways}
use Rattle.ti_cert.specs.Audits.{Another}
use Rattle.ti_cert.proofs.AuditSteps.{not_asked}
use Rattle.ti_cert.proofs.known.Known.judge_effect.Goals as goal

pub returns-then-not-equals-clause-fails : goal.returns-then-not-equals-clause-fails
returns-then-not-equals-clause-fails c = λ tokens recorded. Another c.in-Some.effect (sym recorded ∙ c.in-Some.is) (λ e. both_ways c.equals.result c.if-not-equals.true (c.equals.ensures.complete e)) refl

pub returns-else-asks_for-clause-fails : goal.returns-else-asks_for-clause-fails
returns-else-asks_for-clause-fails c = λ tokens recorded. not_asked c.args.self.now c.args.row c.args.stated.now tokens c.misfit.result c.in-Some.effect c.looks_with-looks.result (sym recorded ∙ c.in-Some.is)
    (c.equals.ensures.sound c.if-not-equals.false) c.looks_with-looks.ensures (λ h. both_ways c.asks_for.result c.if-asks_for.false (c.asks_for.ensures.complete h)) c.misfit.ensures
