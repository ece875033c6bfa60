use Rattle.ti_parm.proofs.Faults.{IfOk-on}
use Rattle.ti_verdicts.proofs.certifiers.TellingCheckerCertifier.certify.Goals as goal

pub returns-clause-certifies : goal.returns-clause-certifies
returns-clause-certifies c =
    IfOk-on c.check.result _ _ _ c.check.ensures.conforms c.check.ensures.certificate (λ text conforms certificate. record { conforms = conforms; certificate = certificate })
