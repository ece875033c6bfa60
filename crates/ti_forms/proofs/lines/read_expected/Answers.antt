use Rattle.std.proofs.Common.{refl}
use Rattle.ti_forms.proofs.LineTexts.{is_text_of, no_other}
use Rattle.ti_forms.proofs.lines.read_expected.Goals as goal

pub returns-in-Ok-clause-found : goal.returns-in-Ok-clause-found
returns-in-Ok-clause-found c = is_text_of c.args.row c.args.text.now c.in-Ok.found (c.if-is_line.ensures refl) c.in-Ok.ensures

pub returns-in-Ok-clause-each : goal.returns-in-Ok-clause-each
returns-in-Ok-clause-each c = λ line is. no_other c.args.row c.args.text.now c.in-Ok.found line (c.if-is_line.ensures refl) c.in-Ok.ensures is
