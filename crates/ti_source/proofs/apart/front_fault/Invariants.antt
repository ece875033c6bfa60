use Rattle.std.proofs.Common.{◌≡◌, ◌≤◌, ◌+◌, length}
use Rattle.ti_source.specs.Apart.{front_fault, stretches_from}
use Rattle.ti_source.specs.Layout.{lines_of}
use Rattle.ti_source.proofs.apart.front_fault.Given as goal

abbrev pub invariant-loop-line : goal.invariant-loop-line
invariant-loop-line l = record {
  number : l.number + length l.rest ≤ length l.text + 1;
  fault : front_fault l.number (stretches_from l.number (lines_of l.rest)).ahead ≡ front_fault 1 (stretches_from 1 (lines_of l.text)).ahead;
}

abbrev pub decreases-loop-line : goal.decreases-loop-line
decreases-loop-line l = length l.rest
