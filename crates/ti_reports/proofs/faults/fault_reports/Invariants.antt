use Rattle.std.proofs.Common.{take}
use Rattle.ti_reports.specs.Faults.{IsFaultReport, of_subject}
use Rattle.ti_verdicts.specs.Parts.{HasParts}
use Rattle.ti_reports.proofs.faults.fault_reports.Given as goal

-- the faults before this one have their reports
abbrev pub invariant-loop-no : goal.invariant-loop-no
invariant-loop-no l = HasParts (IsFaultReport (of_subject l.subject l.faults.nos.now l.faults.mended.now l.faults.left_out.now) l.subject.file.now) (take l.no-index l.faults.nos.now) l.reports.items
