use Rattle.std.proofs.Common.{refl}
use Rattle.ti_forms.proofs.FormEffects.{form_has_effect}
use Rattle.ti_forms.proofs.effects.form_effect.Goals as goal

pub returns-then-is_of_form : goal.returns-then-is_of_form
returns-then-is_of_form c =
    let o = c.if-is_of_form.ensures refl in
    form_has_effect c.args.size.rows c.args.size.cols c.args.row c.args.bytes.now c.standard_effect.result o.has (c.is_in_range.ensures.0 c.if-not-is_in_range.false) o.bytes_are c.standard_effect.ensures
