use Rattle.ti_cert.proofs.Singleness.{one_answer, one_table, no_other, one_fault}
use Rattle.ti_cert.proofs.laws.one_answer.Goals as goal

pub returns : goal.returns
returns c = record { answer = one_answer; table = one_table; other = no_other; fault = one_fault }
