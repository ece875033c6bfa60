use Rattle.vt_term.proofs.Sequences.{empty_open}
use Rattle.vt_term.proofs.terminals.Terminal.new.Goals as goal

pub invariant_of-result : goal.invariant_of-result
invariant_of-result c = rw c.in_ok-parser.ensures empty_open
