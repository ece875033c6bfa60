use Rattle.ti_cert.proofs.BasicAlone.{alone}
use Rattle.ti_cert.proofs.laws.basic_text_alone.Goals as goal

pub returns : goal.returns
returns c = alone
