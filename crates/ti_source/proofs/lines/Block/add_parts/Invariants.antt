use Rattle.std.proofs.Common.{◌≡◌, length}
use Rattle.ti_source.specs.Blocks.{with_lines}
use Rattle.ti_source.specs.Layout.{cut_of}
use Rattle.ti_source.specs.Lines.{part_lines}
use Rattle.ti_source.proofs.lines.Block.add_parts.Given as goal

abbrev pub invariant-loop-part : goal.invariant-loop-part
invariant-loop-part l = with_lines l.self (part_lines l.line (cut_of l.rest).ended) ≡ with_lines l.fn.self (part_lines l.line (cut_of l.text).ended)

abbrev pub decreases-loop-part : goal.decreases-loop-part
decreases-loop-part l = length l.rest
