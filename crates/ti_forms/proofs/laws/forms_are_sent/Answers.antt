use Rattle.ti_forms.proofs.FormSends.{forms_sent}
use Rattle.ti_forms.proofs.laws.forms_are_sent.Goals as goal

pub returns : goal.returns
returns c = λ row h. forms_sent row h
