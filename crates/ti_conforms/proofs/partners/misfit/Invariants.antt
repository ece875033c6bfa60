use Rattle.std.proofs.Common.{◌≡◌, ◌<◌, ℕ, false}
use Rattle.ti_conforms.specs.Alternates as spec
use Rattle.ti_conforms.proofs.partners.misfit.Given as goal

abbrev pub invariant-loop-letter : goal.invariant-loop-letter
invariant-loop-letter l = (k : ℕ) → k < l.letter → spec.is_misfit l.acsc k ≡ false
