use Rattle.ti_cert.proofs.Converse.{accepted_certificate}
use Rattle.ti_cert.proofs.laws.certificate_accepted.Goals as goal

pub returns : goal.returns
returns c = accepted_certificate
