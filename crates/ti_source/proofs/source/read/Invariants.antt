use Rattle.std.proofs.Common.{◌≡◌, ◌≤◌, ◌+◌, length}
use Rattle.ti_source.specs.Layout.{lines_of}
use Rattle.ti_source.specs.Source.{read_lines, source_of}
use Rattle.ti_source.specs.Views.{progress_view}
use Rattle.ti_source.proofs.source.read.Given as goal

abbrev pub invariant-loop-line : goal.invariant-loop-line
invariant-loop-line l = record {
  number : l.number + length l.rest ≤ length l.text + 1;
  rest : read_lines l.number (lines_of l.rest) (progress_view l.reader) ≡ source_of l.text;
}

abbrev pub decreases-loop-line : goal.decreases-loop-line
decreases-loop-line l = length l.rest
