use Rattle.ti_reports.proofs.ReportFacts.{as_reported, yes_reported}
use Rattle.ti_reports.specs.Faults.{ReportsYes}
use Rattle.ti_reports.proofs.faults.yes_report.Goals as goal

pub returns : goal.returns
returns c =
    let subject = c.args.subject.now in
    as_reported (ReportsYes subject.entry.now subject.size.rows subject.size.cols subject.file.now) c.report_on.result c.report_on.ensures
    (λ report on. yes_reported subject c.in_ok-bound.bound c.none.result report c.in_ok-bound.ensures c.none.ensures on)
