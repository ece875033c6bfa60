use Rattle.ti_cert.proofs.BasicTexts.{basic_accepted}
use Rattle.ti_cert.proofs.laws.basic_text_accepted.Goals as goal

pub returns : goal.returns
returns c = basic_accepted
