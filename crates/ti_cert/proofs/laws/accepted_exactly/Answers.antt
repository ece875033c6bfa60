use Rattle.ti_cert.proofs.Converse.{accepts_certificates}
use Rattle.ti_cert.proofs.laws.accepted_exactly.Goals as goal

pub returns : goal.returns
returns c = accepts_certificates
