use Rattle.std.proofs.lemmas.Result.{err_from_is_err_and}
use Rattle.std.proofs.Common.{◌≡◌, sym, subst}
use Rattle.ti_checker.specs.declared.causes.Cause.TheVariants.{NoMemory}
use Rattle.ti_checker.proofs.BasicCertificates.{basic_certificate}
use Rattle.ti_checker.proofs.BasicDrafts.{never_refused}
use Rattle.ti_checker.proofs.Writings.{certificate_of}
use Rattle.ti_checker.proofs.checks.check.Goals as goal

pub returns-clause-certificate : goal.returns-clause-certificate
returns-clause-certificate c = certificate_of c.args.entry.now c.args.size.rows c.args.size.cols c.in_ok-written.written.text.items c.args.size.limits c.names.ensures.entry c.in_ok-check_fitness.ensures.fit
    c.in_ok-written.ensures.written.stands c.in_ok-written.ensures.text c.in_ok-check_together.ensures.right

pub returns-clause-basic : goal.returns-clause-basic
returns-clause-basic c = λ basic. basic_certificate c.args.entry.now c.args.size.rows c.args.size.cols c.in_ok-written.written.text.items c.args.size.limits basic (certificate_of c.args.entry.now c.args.size.rows c.args.size.cols c.in_ok-written.written.text.items c.args.size.limits c.names.ensures.entry c.in_ok-check_fitness.ensures.fit
    c.in_ok-written.ensures.written.stands c.in_ok-written.ensures.text c.in_ok-check_together.ensures.right)

pub returns-in_err-check_together-clause-basic_refused : goal.returns-in_err-check_together-clause-basic_refused
returns-in_err-check_together-clause-basic_refused c = λ basic.
    let e = err_from_is_err_and c.from_residual-in_err-check_together.result c.from_residual-in_err-check_together.ensures.1 in
    rw e.1 (subst (λ r. r.cause ≡ NoMemory) (sym e.2) (never_refused c.args.entry.now c.args.size.rows c.args.size.cols c.in_err-check_together.field-0.0 c.args.size.limits basic c.in_err-check_together.ensures.refused))
