use Rattle.std.proofs.Common.{◌∙◌, sym}
use Rattle.ti_fixes.proofs.Written.{replaced_so}
use Rattle.ti_fixes.proofs.texts.replaced.Goals as goal

pub returns : goal.returns
returns c =
    replaced_so c.args.cap c.args.string.now c.args.parts.front.now c.args.parts.own.now c.as_slice-own.result.now c.args.parts.back.now c.in_ok-text.text.items (sym c.has_no_feed.ensures ∙ c.if-not-has_no_feed.false)
    (sym c.is_one_field.ensures ∙ c.if-not-is_one_field.false) (c.as_slice-own.ensures.value ∙ c.in_ok-field.ensures) c.in_ok-text.ensures
