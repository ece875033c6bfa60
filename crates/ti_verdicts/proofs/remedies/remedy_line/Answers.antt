use Rattle.std.proofs.Common.{◌∙◌, ℕ, List, ap}
use Rattle.std.proofs.lemmas.Result.{IfOk-weaker}
use Rattle.ti_verdicts.specs.Remedies.{remedy_line}
use Rattle.ti_verdicts.proofs.remedies.remedy_line.Goals as goal

pub returns : goal.returns
returns c =
    IfOk-weaker c.spelled_line.result _ _
    (λ line says. (
      c.in_ok-spelled.spelled.items,
      record { printed = c.in_ok-spelled.ensures.text; reads = c.in_ok-spelled.ensures.reads_back },
      says ∙ ap (λ (text : List ℕ). remedy_line c.args.cap text) c.as_slice.ensures.value,
    ))
    c.spelled_line.ensures
