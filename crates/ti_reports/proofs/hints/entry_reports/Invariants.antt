use Rattle.std.specs.List.{AllByRecursion}
use Rattle.ti_reports.specs.Faults.{ReportsHint}
use Rattle.ti_reports.specs.Hints.{text_in}
use Rattle.ti_reports.proofs.hints.entry_reports.Given as goal

-- the hints before this one have their reports
abbrev pub invariant-loop-hint : goal.invariant-loop-hint
invariant-loop-hint l = AllByRecursion (ReportsHint l.subject.entry.now l.subject.size.rows l.subject.size.cols l.subject.file.now (text_in l.source) l.place) l.reports.items
