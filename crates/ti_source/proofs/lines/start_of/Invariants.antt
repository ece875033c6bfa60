use Rattle.std.proofs.Common.{◌≡◌, ◌≤◌, ◌+◌, length}
use Rattle.std.specs.Prelude.{slice_get}
use Rattle.ti_source.specs.Blocks.{entry_block}
use Rattle.ti_source.specs.Layout.{lines_of}
use Rattle.ti_source.specs.Lines.{blocks_from}
use Rattle.ti_source.proofs.lines.start_of.Given as goal

abbrev pub invariant-loop-line : goal.invariant-loop-line
invariant-loop-line l = record {
  number : l.number + length l.rest ≤ length l.text + 1;
  left : slice_get (blocks_from l.number (lines_of l.rest)).entries l.left ≡ entry_block l.text l.entry;
}

abbrev pub decreases-loop-line : goal.decreases-loop-line
decreases-loop-line l = length l.rest
