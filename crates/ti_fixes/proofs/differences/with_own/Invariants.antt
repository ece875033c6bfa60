use Rattle.std.proofs.Common.{◌≡◌, ◌++◌, length}
use Rattle.ti_fixes.specs.Given.{with_own}
use Rattle.ti_fixes.proofs.differences.with_own.Given as goal

abbrev pub invariant-loop-rest : goal.invariant-loop-rest
invariant-loop-rest l = l.given.items ++ with_own l.cap l.string l.rest ≡ with_own l.cap l.string l.fields

abbrev pub decreases-loop-rest : goal.decreases-loop-rest
decreases-loop-rest l = length l.rest
