use Rattle.std.proofs.Common.{refl}
use Rattle.std.proofs.lemmas.Option.{IfSome_then}
use Rattle.ti_forms.proofs.lines.standard_text.Goals as goal

pub returns-then-is_standard : goal.returns-then-is_standard
returns-then-is_standard c = IfSome_then c.line_of.result c.line_of.ensures
    (λ text is. record { has = is.has; string_is = c.if-is_standard.ensures.yes refl; text_is = is.text_is })
