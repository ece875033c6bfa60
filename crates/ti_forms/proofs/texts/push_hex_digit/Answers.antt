use Rattle.std.proofs.Common.{arith}
use Rattle.ti_forms.proofs.LineTexts.{code_pushed}
use Rattle.ti_forms.proofs.texts.push_hex_digit.Goals as goal

pub returns-clause-items : goal.returns-clause-items
returns-clause-items c = code_pushed c.args.digit _ _ _ _ c.requires.digit (omega (arith, c.requires.digit)) c.push.ensures.items c.push-2.ensures.items
