use Rattle.std.proofs.Common.{◌∙◌}
use Rattle.ti_forms.proofs.lines.is_line.Goals as goal

pub returns-in-Some : goal.returns-in-Some
returns-in-Some c = λ t. record { has = c.in-Some.ensures.has; text_is = c.is_text.ensures t ∙ c.in-Some.ensures.text_is }
