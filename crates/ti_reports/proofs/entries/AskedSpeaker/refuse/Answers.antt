use Rattle.std.proofs.lemmas.Result.{IfOk-weaker}
use Rattle.ti_reports.proofs.entries.AskedSpeaker.refuse.Goals as goal

-- the report alone
pub returns : goal.returns
returns g c = IfOk-weaker c.refused_said.result _ _ (λ said tells. (c.in_ok-report.report, c.in_ok-report.ensures, tells)) c.refused_said.ensures
