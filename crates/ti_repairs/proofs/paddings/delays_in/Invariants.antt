use Rattle.std.proofs.Common.{◌≡◌, ◌++◌, false, length}
use Rattle.ti_repairs.specs.Paddings.{delays_in}
use Rattle.ti_repairs.proofs.paddings.delays_in.Given as goal

abbrev pub invariant-loop-rest : goal.invariant-loop-rest
invariant-loop-rest l = l.delays.items ++ delays_in l.is_open l.rest ≡ delays_in false l.string

abbrev pub decreases-loop-rest : goal.decreases-loop-rest
decreases-loop-rest l = length l.rest
