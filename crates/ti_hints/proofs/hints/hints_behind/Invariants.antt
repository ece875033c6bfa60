use Rattle.std.proofs.Common.{length}
use Rattle.std.specs.List.{AllByRecursion}
use Rattle.ti_hints.specs.Places.{IsOn, IsRest}
use Rattle.ti_hints.proofs.hints.hints_behind.Given as goal

-- where the next field begins, and the hints so far
abbrev pub invariant-loop-part : goal.invariant-loop-part
invariant-loop-part l = record {
  left : IsRest l.line.text.now l.passed l.rest;
  on : AllByRecursion (IsOn l.line) l.hints.items;
}

abbrev pub decreases-loop-part : goal.decreases-loop-part
decreases-loop-part l = length l.rest
