use Rattle.std.proofs.Common.{[], ◌∷◌, arith, refl}
use Rattle.ti_reports.specs.Faults.{IsFaultReport, of_subject}
use Rattle.ti_verdicts.specs.Parts.{HasParts}
use Rattle.ti_verdicts.proofs.Parts.{parts_next}
use Rattle.ti_reports.proofs.faults.fault_reports.Goals as goal

pub loop-no-init : goal.loop-no-init
unfolding HasParts
loop-no-init c = c.new-reports.ensures.items

-- the report of the next fault follows those so far
pub loop-no-preserved : goal.loop-no-preserved
loop-no-preserved c =
    parts_next (IsFaultReport (of_subject c.args.subject.now c.args.faults.now.nos.now c.args.faults.now.mended.now c.args.faults.now.left_out.now) c.args.subject.now.file.now) c.args.faults.now.nos.now c.loop-no.no-index c.no-item.result c.loop-no.reports.items (c.in_ok-report.report ∷ []) c.push.new.self.items (omega arith) c.no-item.is
    c.in_ok-push.ensures.items c.loop-no.invariant (c.in_ok-report.report, c.in_ok-report.ensures, refl)
