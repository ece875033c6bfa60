use Rattle.std.proofs.Common.{List, ℕ, subst, sym}
use Rattle.std.proofs.lemmas.Result.{IfOk-weaker}
use Rattle.ti_advice.specs.Deeds.{Alike, IsLead}
use Rattle.ti_advice.proofs.deeds.does_as_meant.Goals as goal

pub returns-clause-meant : goal.returns-clause-meant
returns-clause-meant c =
    IfOk-weaker c.runs_alike.result _ _
    (λ so told e. Alike c.as_slice.result.now (subst (λ (bytes : List ℕ). IsLead c.args.entry.now c.args.duty bytes) (sym c.as_slice.ensures.value) c.in_ok-lead.ensures) (told e))
    c.runs_alike.ensures.alike

pub returns-clause-other : goal.returns-clause-other
returns-clause-other c =
    IfOk-weaker c.runs_alike.result _ _
    (λ so told e. record { lead = c.as_slice.result.now; leads = subst (λ (bytes : List ℕ). IsLead c.args.entry.now c.args.duty bytes) (sym c.as_slice.ensures.value) c.in_ok-lead.ensures; unlike = told e })
    c.runs_alike.ensures.unlike
