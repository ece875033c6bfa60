use Rattle.std.proofs.Common.{◌≡◌, ◌++◌, ◌+◌, ◌≤◌, length}
use Rattle.ti_hints.specs.Carets.{hints_of, lines_hints}
use Rattle.ti_source.specs.Layout.{lines_of}
use Rattle.ti_hints.proofs.carets.percent_carets.Given as goal

abbrev pub invariant-loop-line : goal.invariant-loop-line
invariant-loop-line l = record {
  number : l.number + length l.rest ≤ length l.text + 1;
  hints : l.hints.items ++ lines_hints l.number (lines_of l.rest) ≡ hints_of l.text;
}

abbrev pub decreases-loop-line : goal.decreases-loop-line
decreases-loop-line l = length l.rest
