use Rattle.std.proofs.Common.{sym, arith}
use Rattle.std.proofs.lemmas.Bool.Decides.{nat_tests}
use Rattle.ti_source.specs.Layout.{lines_of}
use Rattle.ti_source.proofs.Fitting.{fields_fit, names_are_fit}
use Rattle.ti_source.proofs.Stretching.{apart_is}
use Rattle.ti_source.proofs.apart.read_apart.Goals as goal

pub returns-in-Ok-clause-entries : goal.returns-in-Ok-clause-entries
returns-in-Ok-clause-entries c = apart_is c.args.text.now c.in-Ok.apart.raws.items c.in-Ok.apart.faults.items (grind (arith, nat_tests, c.if-text-gt-MAX_SOURCE.false)) (sym c.in_default.ensures) c.in-Ok.ensures.raws c.in-Ok.ensures.faults

pub returns-in-Ok-clause-fields : goal.returns-in-Ok-clause-fields
returns-in-Ok-clause-fields c = fields_fit 1 (lines_of c.args.text.now) c.in-Ok.apart.raws.items c.in-Ok.ensures.raws

pub returns-in-Ok-clause-names : goal.returns-in-Ok-clause-names
returns-in-Ok-clause-names c = names_are_fit 1 (lines_of c.args.text.now) c.in-Ok.apart.raws.items c.in-Ok.apart.faults.items c.in-Ok.ensures.raws c.in-Ok.ensures.faults
