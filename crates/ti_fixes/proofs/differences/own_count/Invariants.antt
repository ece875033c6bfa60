use Rattle.std.proofs.Common.{◌≡◌, ◌+◌, drop}
use Rattle.ti_fixes.specs.Given.{own_count}
use Rattle.ti_fixes.proofs.differences.own_count.Given as goal

abbrev pub invariant-loop-at : goal.invariant-loop-at
invariant-loop-at l = own_count l.fields ≡ l.at + own_count (drop l.at l.fields)
