use Rattle.std.proofs.Common.{arith}
use Rattle.vt_term.specs.Parameters.{numbers}
use Rattle.vt_states.proofs.Unknown.{place_fits, place_lacks, numbers_counted}
use Rattle.vt_states.proofs.ignored.place_lack.Goals as goal

pub returns-then-semicolons-gt1 : goal.returns-then-semicolons-gt1
returns-then-semicolons-gt1 c = place_lacks (numbers c.args.numbers.now) (omega (arith, numbers_counted c.args.numbers.now, c.semicolons.ensures, c.if-semicolons-gt1.true))

pub returns-else-semicolons-gt1 : goal.returns-else-semicolons-gt1
returns-else-semicolons-gt1 c = place_fits (numbers c.args.numbers.now) (omega (arith, numbers_counted c.args.numbers.now)) (omega (arith, numbers_counted c.args.numbers.now, c.semicolons.ensures, c.if-semicolons-gt1.false))
