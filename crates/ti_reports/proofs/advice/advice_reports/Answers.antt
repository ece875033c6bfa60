use Rattle.ti_hints.proofs.Hinted.{one_more}
use Rattle.ti_reports.specs.Faults.{ReportsAdvice}
use Rattle.ti_reports.proofs.advice.advice_reports.Goals as goal

-- the report of the next text follows those so far
pub loop-text-preserved : goal.loop-text-preserved
loop-text-preserved c =
    one_more (ReportsAdvice c.args.subject.now.entry.now c.args.subject.now.size.rows c.args.subject.now.size.cols c.args.subject.now.file.now) c.loop-text.reports.items c.push.new.self.items c.in_ok-report.report
    c.in_ok-push.ensures.items c.loop-text.invariant c.in_ok-report.ensures
