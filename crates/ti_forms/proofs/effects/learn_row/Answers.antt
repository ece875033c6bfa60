use Rattle.std.proofs.Common.{refl}
use Rattle.ti_forms.proofs.FormEffects.{form_is_whole, form_learned}
use Rattle.ti_forms.proofs.effects.learn_row.Goals as goal

pub returns-then-is_of_form-clause-whole : goal.returns-then-is_of_form-clause-whole
returns-then-is_of_form-clause-whole c = form_is_whole c.args.row c.args.bytes.now (c.if-is_of_form.ensures refl)

pub returns-then-is_of_form-clause-learned : goal.returns-then-is_of_form-clause-learned
returns-then-is_of_form-clause-learned c = λ tokens s. form_learned c.args.row c.args.bytes.now tokens c.args.reach.now (c.if-is_of_form.ensures refl) s
