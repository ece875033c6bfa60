use Rattle.std.proofs.Common.{◌≡◌, ◌++◌, length}
use Rattle.ti_hints.specs.Carets.{part_hints}
use Rattle.ti_source.specs.Layout.{cut_of}
use Rattle.ti_hints.proofs.carets.add_parts.Given as goal

abbrev pub invariant-loop-part : goal.invariant-loop-part
invariant-loop-part l = l.hints.items ++ part_hints l.line (cut_of l.rest).ended ≡ l.fn.hints.items ++ part_hints l.line (cut_of l.text).ended

abbrev pub decreases-loop-part : goal.decreases-loop-part
decreases-loop-part l = length l.rest
