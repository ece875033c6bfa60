use Rattle.std.proofs.Common.{◌≡◌, ◌++◌, replicate}
use Rattle.ti_parm.proofs.show.write_many.Given as goal

abbrev pub invariant-loop : goal.invariant-loop
invariant-loop l = l.out.items ≡ l.initial.out.items ++ replicate l.counter l.byte
