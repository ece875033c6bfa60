use Rattle.std.proofs.Common.{arith}
use Rattle.ti_forms.proofs.Digits.{digit_pushed}
use Rattle.ti_forms.proofs.numbers.push_digit.Goals as goal

pub returns-clause-items : goal.returns-clause-items
returns-clause-items c = digit_pushed c.args.digit _ _ _ c.requires.digit (omega (arith, c.requires.digit)) c.push.ensures.items
