use Rattle.std.proofs.Common.{◌∙◌}
use Rattle.std.proofs.lemmas.Result.{IfOk-weaker}
use Rattle.ti_fixes.proofs.Written.{added_so}
use Rattle.ti_fixes.proofs.texts.added.Goals as goal

pub returns : goal.returns
returns c =
    IfOk-weaker c.joined.result _ _
    (λ text is. added_so c.args.cap c.args.string.now c.args.front.now c.as_slice-own.result.now c.args.back.now text.items (c.as_slice-own.ensures.value ∙ c.in_ok-own.ensures) is)
    c.joined.ensures
