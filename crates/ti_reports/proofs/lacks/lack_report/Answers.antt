use Rattle.std.proofs.Common.{List, ℕ, Some, inl, subst}
use Rattle.std.proofs.lemmas.Result.{IfOk-weaker}
use Rattle.ti_reports.specs.Lacks.{IsLackOf}
use Rattle.ti_reports.proofs.lacks.lack_report.Goals as goal

-- the name's bytes are those behind the colon
pub returns-in-Some : goal.returns-in-Some
returns-in-Some c =
    IfOk-weaker c.lack_of.result _ _
    (λ report h. inl (c.in-Some.path.now, c.in-Some.name.now, c.in-Some.ensures.parts, subst (λ (name : List ℕ). IsLackOf c.args.size.rows c.args.size.cols c.args.alone c.args.failure.now c.in-Some.path.now (Some name) report) c.as_bytes.ensures.value h))
    c.lack_of.ensures
