use Rattle.std.proofs.Common.{◌≡◌, length}
use Rattle.ti_repairs.specs.Advices.{are_letters}
use Rattle.ti_repairs.proofs.suggestions.are_letters.Given as goal

abbrev pub invariant-loop-rest : goal.invariant-loop-rest
invariant-loop-rest l = are_letters l.rest ≡ are_letters l.pairs

abbrev pub decreases-loop-rest : goal.decreases-loop-rest
decreases-loop-rest l = length l.rest
