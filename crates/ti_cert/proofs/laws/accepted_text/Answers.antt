use Rattle.ti_cert.proofs.Texts.{that_of_certificate}
use Rattle.ti_cert.proofs.laws.accepted_text.Goals as goal

pub returns : goal.returns
returns c = that_of_certificate
