use Rattle.std.proofs.Common.{◌++◌, ◌∙◌, List, ap}
use Rattle.ti_reports.specs.declared.reports.Report.{Report}
use Rattle.ti_reports.proofs.faults.found_reports.Goals as goal

pub returns : goal.returns
returns c = record {
  verdicts = c.in_ok-reports.reports.items;
  advice = c.in_ok-advice.advice.items;
  hints = c.in_ok-hints.hints.items;
  whole = c.in_ok-append-2.ensures.items ∙ ap (λ (front : List Report). front ++ c.in_ok-hints.hints.items) c.in_ok-append.ensures.items;
  judged = c.in_ok-reports.ensures;
  advises = c.in_ok-advice.ensures;
  hints_are = c.in_ok-hints.ensures;
}
