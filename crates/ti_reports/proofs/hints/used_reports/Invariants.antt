use Rattle.std.specs.List.{AllByRecursion}
use Rattle.ti_reports.specs.Faults.{ReportsAnyHint}
use Rattle.ti_reports.specs.Hints.{text_in}
use Rattle.ti_reports.proofs.hints.used_reports.Given as goal

-- the hints about the entries before this one have their reports
abbrev pub invariant-loop-used : goal.invariant-loop-used
invariant-loop-used l = AllByRecursion (ReportsAnyHint l.subject.entry.now l.subject.size.rows l.subject.size.cols l.subject.file.now (text_in l.source)) l.reports.items
