use Rattle.std.proofs.Common.{◌≡◌, refl, subst, ℕ, List}
use Rattle.std.proofs.lemmas.Result.{IfErr-weaker}
use Rattle.ti_lines.specs.Reader.{Rose}
use Rattle.ti_cert.specs.Texts.{IsRefused}
use Rattle.ti_cert.specs.declared.faults.CertFaultKind.TheVariants.{NoMemory}
use Rattle.ti_cert.proofs.Relations.{never_failed}
use Rattle.ti_cert.proofs.BasicTexts.{stopped, out_of_memory}
use Rattle.ti_cert.proofs.audits.audit.Goals as goal

pub returns-clause-refused : goal.returns-clause-refused
returns-clause-refused c = IfErr-weaker c.audit_from.result (IsRefused c.args.size.rows c.args.size.cols c.args.text.now (Rose 0 0)) (IsRefused c.args.size.rows c.args.size.cols c.args.text.now ⊥)
    (λ fault h. never_failed c.args.size.rows c.args.size.cols c.args.text.now fault h) (c.audit_from.ensures.refused c.args.text.now refl)

pub returns-clause-basic : goal.returns-clause-basic
returns-clause-basic c = λ home el e. IfErr-weaker c.audit_from.result (IsRefused c.args.size.rows c.args.size.cols c.args.text.now (Rose 0 0)) (λ fault. fault.kind ≡ NoMemory)
    (λ fault h. out_of_memory fault (stopped c.args.size.rows c.args.size.cols home el ⊥ fault c.args.size.limits
    (subst (λ (text : List ℕ). IsRefused c.args.size.rows c.args.size.cols text ⊥ fault) e (never_failed c.args.size.rows c.args.size.cols c.args.text.now fault h))))
    (c.audit_from.ensures.refused c.args.text.now refl)
