use Rattle.std.proofs.Common.{List, ℕ, true, ap, ◌∙◌}
use Rattle.std.proofs.lemmas.Result.{IfOk-weaker}
use Rattle.ti_repairs.specs.Notes.{label_of, wrong_lines}
use Rattle.ti_repairs.proofs.still_wrong.lines_at.Goals as goal

pub returns : goal.returns
returns c =
    IfOk-weaker c.wrong_lines.result _ _
    (λ text h. record {
      wrong = c.in_ok-wrong.wrong;
      is = c.in_ok-wrong.ensures;
      says = h ∙ ap (λ (label : List ℕ). wrong_lines label c.in_ok-wrong.wrong) (c.as_slice.ensures.value ∙ (c.in_ok-label.ensures ∙ ap (λ (name : List ℕ). label_of true name) c.own_name.ensures));
    })
    c.wrong_lines.ensures
