use Rattle.ti_checker.proofs.BasicCertificates.{basic_certificate}
use Rattle.ti_checker.proofs.laws.basic_certificate.Goals as goal

pub returns : goal.returns
returns c = basic_certificate
