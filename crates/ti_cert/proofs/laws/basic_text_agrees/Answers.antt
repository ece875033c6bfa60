use Rattle.ti_cert.proofs.BasicAgreement.{table_for}
use Rattle.ti_cert.proofs.laws.basic_text_agrees.Goals as goal

pub returns : goal.returns
returns c = table_for
