use Rattle.std.proofs.Common.{take}
use Rattle.ti_verdicts.specs.Parts.{HasParts}
use Rattle.ti_reports.proofs.forms.printed.Given as goal

-- the reports before this one have their texts
abbrev pub invariant-loop-report : goal.invariant-loop-report
invariant-loop-report g l = HasParts (g.P.Form.prints l.form) (take l.report-index l.reports) l.text.items
