use Rattle.ti_reports.proofs.ReportFacts.{advice_reported, as_reported}
use Rattle.ti_reports.specs.Faults.{ReportsAdvice}
use Rattle.ti_reports.proofs.advice.advice_report.Goals as goal

pub returns : goal.returns
returns c =
    let subject = c.args.subject.now in
    as_reported (ReportsAdvice subject.entry.now subject.size.rows subject.size.cols subject.file.now) c.report_on.result c.report_on.ensures
    (λ report on. advice_reported subject c.in_ok-finding.finding report c.in_ok-finding.ensures.nowhere c.in_ok-finding.ensures.says on)
