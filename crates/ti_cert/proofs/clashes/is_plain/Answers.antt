use Rattle.ti_cert.proofs.clashes.is_plain.Goals as goal

pub returns-in-Some-clause-no : goal.returns-in-Some-clause-no
returns-in-Some-clause-no c = λ e. (c.if-sent.false, (c.in-Some.field-0, c.in-Some.ensures.some))
