use Rattle.std.specs.List.{AllByRecursion}
use Rattle.ti_reports.specs.Faults.{ReportsAdvice}
use Rattle.ti_reports.proofs.advice.advice_reports.Given as goal

-- the texts before this one have their reports
abbrev pub invariant-loop-text : goal.invariant-loop-text
invariant-loop-text l = AllByRecursion (ReportsAdvice l.subject.entry.now l.subject.size.rows l.subject.size.cols l.subject.file.now) l.reports.items
