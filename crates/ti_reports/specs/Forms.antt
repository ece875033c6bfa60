-- The form in which reports are printed.
use Rattle.std.specs.Prelude.{◌&&◌, ℕ, Bool, List}
use Rattle.ti_reports.specs.Reports.{is_wrong}
use Rattle.ti_reports.specs.declared.reports.Report.{Report}

-- which reports a form tells of, and what it prints of one
abbrev pub Wanting : Type 0
Wanting = Report → Bool

abbrev pub Printing : Type 1
Printing = Report → List ℕ → Type 0

-- a report that something is wrong, of which a form tells
abbrev pub is_news : Wanting → Report → Bool
is_news Wanted report = is_wrong report.verdict && Wanted report
