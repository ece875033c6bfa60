use Rattle.std.proofs.Common.{◌∙◌}
use Rattle.ti_forms.proofs.forms.is_of_form.Goals as goal

pub returns-in-Some : goal.returns-in-Some
returns-in-Some c = λ t. record { has = c.in-Some.ensures.has; bytes_are = c.has_bytes.ensures t ∙ c.in-Some.ensures.bytes }
