use Rattle.std.proofs.Common.{refl}
use Rattle.ti_forms.specs.Forms.{ToPlace}
use Rattle.ti_rows.specs.declared.rows.Row.TheVariants.{Cup}
use Rattle.ti_forms.proofs.FormSends.{forms_sent}
use Rattle.ti_forms.proofs.laws.moves_are_sent.Goals as goal

pub returns : goal.returns
returns c = λ row col h k. forms_sent (Cup row col) (ToPlace row col refl h k)
