use Rattle.std.proofs.Common.{◌≡◌, length}
use Rattle.ti_conforms.specs.Alternates as spec
use Rattle.ti_conforms.proofs.partners.listed.Given as goal

abbrev pub invariant-loop-pairs : goal.invariant-loop-pairs
invariant-loop-pairs l = spec.listed l.pairs l.letter ≡ spec.listed l.acsc l.letter

abbrev pub decreases-loop-pairs : goal.decreases-loop-pairs
decreases-loop-pairs l = length l.pairs
