use Rattle.std.proofs.Common.{◌≡◌, take}
use Rattle.ti_repairs.specs.Advices.{with_fault}
use Rattle.ti_repairs.proofs.suggestions.with_fault.Given as goal

abbrev pub invariant-loop-cap : goal.invariant-loop-cap
invariant-loop-cap l = l.listed.items ≡ with_fault l.fault (take l.cap-index l.caps)
