use Rattle.std.proofs.Common.{arith}
use Rattle.vt_term.specs.Parameters.{numbers}
use Rattle.vt_states.proofs.Unknown.{margins_fit, margins_lack, numbers_counted}
use Rattle.vt_states.proofs.ignored.margins_lack.Goals as goal

pub returns-then-semicolons-gt1 : goal.returns-then-semicolons-gt1
returns-then-semicolons-gt1 c = margins_lack (numbers c.args.numbers.now) (omega (arith, numbers_counted c.args.numbers.now, c.semicolons.ensures, c.if-semicolons-gt1.true))

pub returns-else-semicolons-gt1 : goal.returns-else-semicolons-gt1
returns-else-semicolons-gt1 c = margins_fit (numbers c.args.numbers.now) (omega (arith, numbers_counted c.args.numbers.now)) (omega (arith, numbers_counted c.args.numbers.now, c.semicolons.ensures, c.if-semicolons-gt1.false))
