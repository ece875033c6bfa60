use Rattle.std.proofs.Common.{arith}
use Rattle.ti_forms.proofs.Digits.{digits_join}
use Rattle.ti_forms.proofs.numbers.push_number.Goals as goal

pub returns-else-number-lt100-clause-items : goal.returns-else-number-lt100-clause-items
returns-else-number-lt100-clause-items c = digits_join c.args.number c.args.bytes.now.items c.push_short-else-number-lt100.new.bytes.items c.push_digit.new.bytes.items
    (omega (arith, c.if-number-lt100.false)) c.requires.small c.push_short-else-number-lt100.ensures.items c.push_digit.ensures.items
