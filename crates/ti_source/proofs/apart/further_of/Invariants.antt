use Rattle.std.proofs.Common.{◌≡◌, ◌≤◌, ◌+◌, length}
use Rattle.ti_source.specs.Apart.{further_of, stretches_from}
use Rattle.ti_source.specs.Layout.{lines_of}
use Rattle.ti_source.proofs.apart.further_of.Given as goal

abbrev pub invariant-loop-line : goal.invariant-loop-line
invariant-loop-line l = record {
  number : l.number + length l.rest ≤ 4294967295;
  entry : further_of l.number (stretches_from l.number (lines_of l.rest)).ahead l.draft ≡ further_of l.first (stretches_from l.first (lines_of l.text)).ahead l.initial.draft;
}

abbrev pub decreases-loop-line : goal.decreases-loop-line
decreases-loop-line l = length l.rest
