use Rattle.std.proofs.Common.{arith, refl}
use Rattle.vt_term.proofs.Sequences.{empty_open}
use Rattle.vt_term.proofs.parser.Parser.new.Goals as goal

pub invariant_of-result : goal.invariant_of-result
invariant_of-result c = rw (c.new.ensures, c.in_ok-with_capacity.ensures.items) (record {
  counted = refl;
  few = omega arith;
  room = omega (arith, c.in_ok-with_capacity.ensures.exact);
  fits = empty_open;
  at = refl;
})
