use Rattle.ti_faults.proofs.Places.{Apart}
use Rattle.ti_faults.proofs.capabilities.row_of.Given as goal

abbrev pub invariant-loop-place : goal.invariant-loop-place
invariant-loop-place l = Apart l.cap l.place
