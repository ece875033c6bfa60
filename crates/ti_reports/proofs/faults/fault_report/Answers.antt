use Rattle.ti_reports.proofs.ReportFacts.{as_reported, fault_reported}
use Rattle.ti_reports.specs.Faults.{ReportsFault, of_subject}
use Rattle.ti_reports.proofs.faults.fault_report.Goals as goal

pub returns : goal.returns
returns c =
    let subject = c.args.subject.now in
    as_reported (ReportsFault (of_subject subject c.args.faults.now.nos.now c.args.faults.now.mended.now c.args.faults.now.left_out.now) subject.file.now c.args.no.now) c.report_on.result c.report_on.ensures
    (λ report on. fault_reported subject c.args.faults.now.nos.now c.args.faults.now.mended.now c.args.faults.now.left_out.now c.args.no.now c.in_ok-cause.cause c.in_ok-finding.finding report c.in_ok-cause.ensures c.in_ok-finding.ensures on)
