use Rattle.std.proofs.Common.{refl}
use Rattle.std.proofs.lemmas.Result.{IfErr-weaker}
use Rattle.ti_lines.specs.Reader.{Rose}
use Rattle.ti_cert.specs.Basic.{IsVerifyStopped}
use Rattle.ti_cert.proofs.BasicAgreement.{verify_stopped}
use Rattle.ti_cert.specs.Texts.{IsCertRefused}
use Rattle.ti_cert.proofs.Relations.{never_failed_there}
use Rattle.ti_cert.proofs.verification.verify.Goals as goal

pub returns-clause-refused : goal.returns-clause-refused
returns-clause-refused c = IfErr-weaker c.verify_from.result (IsCertRefused c.args.size.rows c.args.size.cols c.args.text.now (Rose 0 0)) (IsCertRefused c.args.size.rows c.args.size.cols c.args.text.now ⊥)
    (λ fault h. never_failed_there c.args.size.rows c.args.size.cols c.args.text.now fault h) (c.verify_from.ensures.refused c.args.text.now refl)

pub returns-clause-basic : goal.returns-clause-basic
returns-clause-basic c = λ basic e. IfErr-weaker c.verify_from.result (IsVerifyStopped (Rose 0 0)) (IsVerifyStopped ⊥) (λ fault h. verify_stopped fault h) (c.verify_from.ensures.basic basic e)
