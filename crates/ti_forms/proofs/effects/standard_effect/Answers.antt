use Rattle.std.proofs.Common.{sym, ap, ◌∙◌}
use Rattle.ti_rows.specs.declared.rows.Row.{Row}
use Rattle.ti_forms.specs.Forms.{standard_effect}
use Rattle.ti_forms.proofs.effects.standard_effect.Goals as goal

pub returns-in-Hpa : goal.returns-in-Hpa
returns-in-Hpa c = c.moving-in-Hpa.ensures ∙ ap (λ (row : Row). standard_effect row) (sym c.in-Hpa.is)

pub returns-in-Vpa : goal.returns-in-Vpa
returns-in-Vpa c = c.moving-in-Vpa.ensures ∙ ap (λ (row : Row). standard_effect row) (sym c.in-Vpa.is)
