use Rattle.std.proofs.Common.{refl}
use Rattle.ti_forms.specs.Forms.{bytes_of}
use Rattle.ti_forms.proofs.FormSends.{form_sends}
use Rattle.ti_forms.proofs.forms.form_sent.Goals as goal

pub returns-in-Some-clause-sends : goal.returns-in-Some-clause-sends
returns-in-Some-clause-sends c = form_sends c.args.string.now c.args.row (bytes_of c.in-Some.form) c.in-Some.ensures.has (c.if-is_standard.ensures.yes refl) c.in-Some.ensures.bytes
