use Rattle.std.proofs.Common.{arith}
use Rattle.ti_forms.proofs.LineTexts.{codes_join}
use Rattle.ti_forms.proofs.texts.push_hex_number.Goals as goal

pub returns-else-number-lt100-clause-items : goal.returns-else-number-lt100-clause-items
returns-else-number-lt100-clause-items c = codes_join c.args.number c.args.text.now.items c.push_hex_short-else-number-lt100.new.text.items c.push_hex_digit.new.text.items
    (omega (arith, c.if-number-lt100.false)) c.requires.small c.push_hex_short-else-number-lt100.ensures.items c.push_hex_digit.ensures.items
