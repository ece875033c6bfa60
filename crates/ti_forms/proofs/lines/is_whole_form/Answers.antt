use Rattle.std.proofs.Common.{refl, ◌∙◌}
use Rattle.ti_forms.proofs.lines.is_whole_form.Goals as goal

pub returns-then-is_of_form : goal.returns-then-is_of_form
returns-then-is_of_form c = λ t. record { form = c.if-is_of_form.ensures refl; effect_is = c.equals.ensures.sound t ∙ c.standard_effect.ensures }
