use Rattle.std.proofs.Common.{ℕ, ◌<◌}
use Rattle.ti_faults.specs.Mended.{FailsToSwitch}
use Rattle.ti_faults.proofs.mended.Mended.best.Given as goal

abbrev pub invariant-loop-number : goal.invariant-loop-number
invariant-loop-number l = (k : ℕ) → k < l.number → FailsToSwitch l.entry l.size.rows l.size.cols l.nos l.second_sgr0 k
