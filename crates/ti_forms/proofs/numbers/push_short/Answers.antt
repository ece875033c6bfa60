use Rattle.std.proofs.Common.{arith}
use Rattle.ti_forms.proofs.Digits.{digits_join}
use Rattle.ti_forms.proofs.numbers.push_short.Goals as goal

pub returns-else-number-lt10-clause-items : goal.returns-else-number-lt10-clause-items
returns-else-number-lt10-clause-items c = digits_join c.args.number c.args.bytes.now.items c.push_digit-else-number-lt10.new.bytes.items c.push_digit-else-number-lt10-2.new.bytes.items
    (omega (arith, c.if-number-lt10.false)) (omega (arith, c.requires.small)) c.push_digit-else-number-lt10.ensures.items c.push_digit-else-number-lt10-2.ensures.items
