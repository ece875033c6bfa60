use Rattle.std.proofs.Common.{List, ℕ, Option, subst}
use Rattle.std.proofs.lemmas.Result.{IfOk-weaker}
use Rattle.std.specs.Prelude.{option_map}
use Rattle.ti_reports.specs.Lacks.{IsReasonPlace}
use Rattle.ti_reports.specs.Surveys.{ReportsRefused}
use Rattle.ti_reports.proofs.lacks.lack_of.Goals as goal

-- the reason is the failure's own, and its place is in the file that is read alone
pub returns : goal.returns
returns c =
    IfOk-weaker c.refused_report.result _ _
    (λ report h. record {
      why = c.in_ok-why.why.items;
      reason = c.in_ok-why.ensures;
      place = c.in_ok-place.place;
      stands = subst (λ (path : Option (List ℕ)). IsReasonPlace path c.args.failure.now c.in_ok-place.place) c.sole_path.ensures c.in_ok-place.ensures;
      says = subst (λ (why : List ℕ). ReportsRefused c.args.size.rows c.args.size.cols c.args.path.now (option_map (λ n. n.now) c.args.name) why c.in_ok-place.place report) c.as_slice.ensures.value h;
    })
    c.refused_report.ensures
