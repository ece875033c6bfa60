use Rattle.ti_cert.proofs.Disagreements.{excludes_yes}
use Rattle.ti_cert.proofs.laws.disagreement_excludes_yes.Goals as goal

pub returns : goal.returns
returns c = excludes_yes
