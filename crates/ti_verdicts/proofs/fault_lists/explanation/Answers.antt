use Rattle.std.proofs.Common.{◌∙◌, ℕ, List, ap, flat_map}
use Rattle.std.proofs.lemmas.Result.{IfOk-weaker}
use Rattle.ti_verdicts.specs.FaultLists.{indented}
use Rattle.ti_verdicts.proofs.fault_lists.explanation.Goals as goal

-- the lines are those of the remarks
pub returns : goal.returns
returns c =
    IfOk-weaker c.indented.result _ _
    (λ text e. record { each = c.explain_no.new.remarks; remarks = c.lines.ensures.remarks; says = e ∙ ap (λ (each : List (List ℕ)). flat_map indented each) c.lines.ensures.lines })
    c.indented.ensures
