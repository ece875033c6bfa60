use Rattle.std.proofs.Common.{refl}
use Rattle.ti_forms.proofs.LineTexts.{written_line}
use Rattle.ti_forms.proofs.lines.form_line.Goals as goal

pub returns-in-Some : goal.returns-in-Some
returns-in-Some c = written_line c.args.row c.args.bytes.now c.args.effect.now c.in-Some.line.items c.in-Some.ensures (c.if-is_whole_form.ensures refl)
