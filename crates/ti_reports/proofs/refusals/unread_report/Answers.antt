use Rattle.std.proofs.Common.{◌∙◌, ℕ, List, None, ap, subst}
use Rattle.std.proofs.lemmas.Result.{IfOk-weaker}
use Rattle.ti_reports.specs.Surveys.{ReportsRefused, file_text}
use Rattle.ti_reports.proofs.refusals.unread_report.Goals as goal

-- the reason names the path
pub returns : goal.returns
returns c =
    IfOk-weaker c.refused_report.result _ _
    (λ report h. record {
      place = c.nowhere-place.result;
      nowhere = c.nowhere-place.ensures;
      says = subst (λ (why : List ℕ). ReportsRefused c.args.size.rows c.args.size.cols c.args.path.now None why c.nowhere-place.result report)
          (c.as_slice.ensures.value ∙ (c.in_ok-why.ensures ∙ ap file_text c.as_bytes.ensures.value)) h;
    })
    c.refused_report.ensures
