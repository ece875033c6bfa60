use Rattle.std.proofs.Common.{◌≡◌, ◌≤◌, ◌+◌, length}
use Rattle.ti_source.specs.Blocks.{with_lines}
use Rattle.ti_source.specs.Layout.{lines_of}
use Rattle.ti_source.specs.Lines.{blocks_from}
use Rattle.ti_source.proofs.lines.Block.add_lines.Given as goal

abbrev pub invariant-loop-line : goal.invariant-loop-line
invariant-loop-line l = record {
  number : l.number + length l.rest ≤ 18446744073709551615;
  fields : with_lines l.self (blocks_from l.number (lines_of l.rest)).ahead ≡ with_lines l.fn.self (blocks_from l.first (lines_of l.text)).ahead;
}

abbrev pub decreases-loop-line : goal.decreases-loop-line
decreases-loop-line l = length l.rest
