use Rattle.ti_reports.proofs.ReportFacts.{as_reported, hint_reported}
use Rattle.ti_reports.specs.Faults.{ReportsHint}
use Rattle.ti_reports.specs.Hints.{text_in}
use Rattle.ti_reports.proofs.hints.hint_report.Goals as goal

pub returns : goal.returns
returns c =
    let subject = c.args.subject.now in
    as_reported (ReportsHint subject.entry.now subject.size.rows subject.size.cols subject.file.now (text_in c.args.source.now) c.args.place) c.report_on.result c.report_on.ensures
    (λ report on. hint_reported subject (text_in c.args.source.now) c.args.place c.args.hint.now c.in_ok-finding.finding report c.requires
    c.in_ok-finding.ensures.stands c.in_ok-finding.ensures.capability c.in_ok-finding.ensures.says on)
