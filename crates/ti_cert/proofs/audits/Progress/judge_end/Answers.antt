use Rattle.std.proofs.Common.{inl, sym, subst, Err}
use Rattle.std.proofs.lemmas.Result.{err_from_is_err_and}
use Rattle.ti_cert.specs.Audits.{AnswersLast}
use Rattle.ti_cert.specs.declared.faults.CertFaultKind.{CertFaultKind}
use Rattle.ti_cert.proofs.AuditSteps.{last_lacks, last_clashes, last_closes}
use Rattle.ti_cert.proofs.audits.Progress.judge_end.Goals as goal

pub returns-in-Some-clause-err : goal.returns-in-Some-clause-err
returns-in-Some-clause-err c =
    inl (subst (λ (k : CertFaultKind). AnswersLast c.args.self.now (Err k)) (sym c.missing-in-Some.ensures) (last_lacks c.args.self.now c.in-Some.missing c.in-Some.ensures))

pub returns-in_err-settled-in-None-clause-err : goal.returns-in_err-settled-in-None-clause-err
returns-in_err-settled-in-None-clause-err c =
    let p = err_from_is_err_and c.from_residual.result c.from_residual.ensures.1 in
    rw (p.1, p.2) (last_clashes c.args.self.now _ c.is_some.result c.is_some.ensures c.in-None.ensures c.in_err-settled-in-None.ensures.fails)

pub returns-in_ok-settled-in-None-clause-ok : goal.returns-in_ok-settled-in-None-clause-ok
returns-in_ok-settled-in-None-clause-ok c = last_closes c.args.self.now c.in_ok-settled-in-None.settled c.is_some.result c.is_some.ensures c.in-None.ensures c.in_ok-settled-in-None.ensures.concluded
