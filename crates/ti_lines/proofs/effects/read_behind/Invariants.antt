use Rattle.std.proofs.Common.{◌≡◌, length}
use Rattle.ti_lines.specs.EffectReader as spec
use Rattle.ti_lines.proofs.effects.read_behind.Given as goal

abbrev pub invariant-loop-word : goal.invariant-loop-word
invariant-loop-word l = spec.read_behind l.found l.rest ≡ spec.read_behind l.fn.found l.text

abbrev pub decreases-loop-word : goal.decreases-loop-word
decreases-loop-word l = length l.rest
