use Rattle.std.proofs.Common.{◌≡◌, drop}
use Rattle.ti_grades.specs.Codes.{has_bare_sign}
use Rattle.ti_grades.proofs.codes.is_designation.Given as goal

abbrev pub invariant-loop-byte : goal.invariant-loop-byte
invariant-loop-byte l = has_bare_sign l.before (drop l.byte-index l.string) ≡ has_bare_sign 0 l.string
