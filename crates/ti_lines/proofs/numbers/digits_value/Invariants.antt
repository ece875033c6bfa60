use Rattle.std.proofs.Common.{◌≡◌, drop}
use Rattle.ti_lines.specs.EffectReader as spec
use Rattle.ti_lines.proofs.numbers.digits_value.Given as goal

abbrev pub invariant-loop-digit : goal.invariant-loop-digit
invariant-loop-digit l = spec.digits_from l.number (drop l.digit-index l.digits) ≡ spec.digits_from 0 l.digits
