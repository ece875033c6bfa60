use Rattle.std.proofs.Common.{◌≡◌}
use Rattle.curses_c.proofs.Making.{Leads}
use Rattle.curses_c.proofs.held.Held.calls.Given as goal

abbrev pub invariant-loop-call : goal.invariant-loop-call
invariant-loop-call l = record {
  done : l.done ≡ l.call-index;
  leads : Leads l.fn.self l.calls l.call-index l.self;
}
