use Rattle.std.proofs.Common.{◌∙◌, ℕ, List, Some, subst}
use Rattle.std.proofs.lemmas.Result.{IfOk-weaker}
use Rattle.std.specs.Prelude.{option_map}
use Rattle.ti_reports.specs.Sources.{IsRefusalPlace}
use Rattle.ti_reports.specs.Surveys.{ReportsRefused}
use Rattle.ti_verdicts.specs.Locations.{place_if}
use Rattle.ti_reports.proofs.refusals.lacking_report.Goals as goal

-- the reason is the refusal's own, and its place is in the file with the fault
pub returns : goal.returns
returns c =
    IfOk-weaker c.refused_report.result _ _
    (λ report h. record {
      place = c.in_ok-place.place;
      found = subst (λ (path : List ℕ). IsRefusalPlace (place_if c.args.lacking.now.stands.now) (Some path) c.args.lacking.now.refusal.now c.in_ok-place.place) c.fault_file.ensures c.in_ok-place.ensures;
      says = subst (λ (why : List ℕ). ReportsRefused c.args.size.rows c.args.size.cols c.args.lacking.now.path.now (option_map (λ n. n.now) c.args.lacking.now.name) why c.in_ok-place.place report) (c.as_slice.ensures.value ∙ c.in_ok-why.ensures) h;
    })
    c.refused_report.ensures
