use Rattle.std.proofs.Common.{◌≡◌, drop}
use Rattle.ti_sources.specs.Resolution.{first_fault}
use Rattle.ti_sources.proofs.resolution.first_fault.Given as goal

abbrev pub invariant-loop-place : goal.invariant-loop-place
invariant-loop-place l = first_fault l.faults (drop l.place-index l.places) ≡ first_fault l.faults l.places
