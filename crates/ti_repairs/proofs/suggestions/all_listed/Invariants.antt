use Rattle.std.proofs.Common.{◌≡◌, take}
use Rattle.ti_repairs.specs.Advices.{all_listed}
use Rattle.ti_repairs.proofs.suggestions.all_listed.Given as goal

abbrev pub invariant-loop-fault : goal.invariant-loop-fault
invariant-loop-fault l = l.listed.items ≡ all_listed l.nos (take l.fault-index l.findings)
