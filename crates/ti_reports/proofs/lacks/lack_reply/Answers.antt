use Rattle.std.proofs.Common.{◌∙◌, Bool, ap}
use Rattle.ti_reports.specs.Lacks.{told_failure}
use Rattle.ti_reports.proofs.lacks.lack_reply.Goals as goal

-- the report of the reason, as the form prints it
pub returns-clause-reply : goal.returns-clause-reply
returns-clause-reply g c = record {
  report = c.in_ok-report.report;
  lacks = c.in_ok-report.ensures;
  printed = c.in_ok-text.ensures;
  no_notes = c.new.ensures.items;
  ends = c.told_failure.ensures ∙ ap (λ (told : Bool). told_failure told c.args.failure) c.is_news.ensures;
}
