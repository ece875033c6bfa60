use Rattle.std.proofs.lemmas.Result.{IfOk-weaker}
use Rattle.ti_reports.proofs.faults.yes_alone.Goals as goal

pub returns : goal.returns
returns c = IfOk-weaker c.only.result _ _ (λ reports is. (c.in_ok-report.report, c.in_ok-report.ensures, is)) c.only.ensures
