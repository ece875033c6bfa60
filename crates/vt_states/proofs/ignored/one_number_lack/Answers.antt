use Rattle.std.proofs.Common.{◌∙◌, sym, arith}
use Rattle.vt_term.specs.Parameters.{number_of, numbers}
use Rattle.vt_term.specs.Function.{counted}
use Rattle.vt_states.proofs.Unknown.{by_count, by_part, numbers_counted, one_lacks, one_number}
use Rattle.vt_states.proofs.ignored.one_number_lack.Goals as goal

pub returns-then-semicolons-gt0 : goal.returns-then-semicolons-gt0
returns-then-semicolons-gt0 c = one_lacks c.args.last (numbers c.args.numbers.now) (omega (arith, numbers_counted c.args.numbers.now, c.semicolons.ensures, c.if-semicolons-gt0.true))

pub returns-then-erases_part : goal.returns-then-erases_part
returns-then-erases_part c =
    let one = one_number c.args.numbers.now (omega (arith, c.semicolons.ensures, c.if-semicolons-gt0.false)) in
    c.part_lack.ensures ∙ rw (one) (by_part c.args.last (number_of c.args.numbers.now) (sym c.if-erases_part.ensures))

pub returns-else-erases_part : goal.returns-else-erases_part
returns-else-erases_part c =
    let one = one_number c.args.numbers.now (omega (arith, c.semicolons.ensures, c.if-semicolons-gt0.false)) in
    c.counting_lack.ensures (counted (number_of c.args.numbers.now)) ∙ rw (one) (by_count c.args.last (number_of c.args.numbers.now) (sym c.if-erases_part.ensures))
