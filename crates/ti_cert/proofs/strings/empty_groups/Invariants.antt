use Rattle.std.proofs.Common.{◌≡◌, [], replicate}
use Rattle.ti_cert.proofs.strings.empty_groups.Given as goal

abbrev pub invariant-loop : goal.invariant-loop
invariant-loop l = l.groups.items ≡ replicate l.counter []
