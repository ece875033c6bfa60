use Rattle.std.proofs.Common.{◌++◌, ◌∙◌, ℕ, List, ap, arith}
use Rattle.ti_verdicts.specs.Parts.{HasParts}
use Rattle.ti_verdicts.proofs.Parts.{parts_next}
use Rattle.ti_reports.proofs.forms.printed.Goals as goal

pub loop-report-init : goal.loop-report-init
unfolding HasParts
loop-report-init g c = c.new-text.ensures.items

-- the text of the next report follows those so far
pub loop-report-preserved : goal.loop-report-preserved
loop-report-preserved g c =
    parts_next (g.P.Form.prints c.args.form.now) c.args.reports.now c.loop-report.report-index c.report-item.result c.loop-report.text.items c.in_ok-print.field-0.items c.extend_from_slice.new.self.items (omega arith) c.report-item.is
    (c.in_ok-extend_from_slice.ensures.items ∙ ap (λ (own : List ℕ). c.loop-report.text.items ++ own) c.as_slice.ensures.value) c.loop-report.invariant c.in_ok-print.ensures
