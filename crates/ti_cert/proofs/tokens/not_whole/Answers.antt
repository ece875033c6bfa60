use Rattle.std.proofs.Common.{inl, refl, subst}
use Rattle.vt_term.specs.Scanned.{IsTextFault}
use Rattle.ti_cert.proofs.AuditSteps.{not_unfinished, not_stuck}
use Rattle.ti_cert.proofs.tokens.not_whole.Goals as goal

pub returns-in-Unfinished : goal.returns-in-Unfinished
returns-in-Unfinished c = λ bytes h. inl (refl, not_unfinished bytes c.args.fault.at (subst (λ k. IsTextFault bytes c.args.fault.at k) c.in-Unfinished.is h))

pub returns-in-Stuck : goal.returns-in-Stuck
returns-in-Stuck c = λ bytes h. inl (refl, not_stuck bytes c.args.fault.at (subst (λ k. IsTextFault bytes c.args.fault.at k) c.in-Stuck.is h))
