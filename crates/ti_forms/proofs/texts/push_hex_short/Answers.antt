use Rattle.std.proofs.Common.{arith}
use Rattle.ti_forms.proofs.LineTexts.{codes_join}
use Rattle.ti_forms.proofs.texts.push_hex_short.Goals as goal

pub returns-else-number-lt10-clause-items : goal.returns-else-number-lt10-clause-items
returns-else-number-lt10-clause-items c = codes_join c.args.number c.args.text.now.items c.push_hex_digit-else-number-lt10.new.text.items c.push_hex_digit-else-number-lt10-2.new.text.items
    (omega (arith, c.if-number-lt10.false)) (omega (arith, c.requires.small)) c.push_hex_digit-else-number-lt10.ensures.items c.push_hex_digit-else-number-lt10-2.ensures.items
