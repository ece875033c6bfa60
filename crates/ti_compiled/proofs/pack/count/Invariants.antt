use Rattle.std.proofs.Common.{◌≡◌}
use Rattle.ti_compiled.proofs.Rows.{counted_to}
use Rattle.ti_compiled.proofs.pack.count.Given as goal

abbrev pub invariant-loop-position : goal.invariant-loop-position
invariant-loop-position l = l.count ≡ counted_to l.kind l.entry l.position
