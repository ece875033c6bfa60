use Rattle.ti_hints.proofs.Hinted.{all_behind}
use Rattle.ti_reports.specs.Faults.{ReportsAnyHint, ReportsHint}
use Rattle.ti_reports.specs.Hints.{text_in}
use Rattle.ti_reports.proofs.ReportFacts.{all_weaker}
use Rattle.ti_reports.proofs.hints.add_reports.Goals as goal

-- the reports about the entry follow those so far
pub returns : goal.returns
returns c =
    let subject = c.args.subject.now in
    all_behind (ReportsAnyHint subject.entry.now subject.size.rows subject.size.cols subject.file.now (text_in c.args.source.now))
    c.args.reports.now.items c.in_ok-own.own.items c.append.new.self.items c.in_ok-append.ensures.items c.requires
    (all_weaker (ReportsHint subject.entry.now subject.size.rows subject.size.cols subject.file.now (text_in c.args.source.now) c.args.place)
    (ReportsAnyHint subject.entry.now subject.size.rows subject.size.cols subject.file.now (text_in c.args.source.now)) c.in_ok-own.own.items
    (λ report is. (c.args.place, is)) c.in_ok-own.ensures)
