use Rattle.std.proofs.Common.{◌≡◌, None, replicate}
use Rattle.ti_caps.proofs.entry.empty_rows.Given as goal

abbrev pub invariant-loop : goal.invariant-loop
invariant-loop l = l.rows.items ≡ replicate l.counter None
