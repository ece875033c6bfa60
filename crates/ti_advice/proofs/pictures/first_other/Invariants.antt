use Rattle.std.proofs.Common.{◌≡◌, ◌<◌, ℕ, false}
use Rattle.ti_advice.specs.Pictures as spec
use Rattle.ti_advice.proofs.pictures.first_other.Given as goal

-- no letter before this one
abbrev pub invariant-loop-letter : goal.invariant-loop-letter
invariant-loop-letter l = spec.NoneBelow l.acsc l.letter
