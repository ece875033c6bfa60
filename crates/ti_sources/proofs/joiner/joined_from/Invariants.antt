-- The text of the lines so far, and of those that are left.
use Rattle.std.proofs.Common.{◌≡◌, ◌∷◌, length}
use Rattle.std.specs.List.{flat_map}
use Rattle.ti_sources.specs.Joins.{ended, joined_lines}
use Rattle.ti_sources.specs.Steps.{scan_of, state_of, text_from}
use Rattle.ti_source.specs.Layout.{lines_of}
use Rattle.ti_sources.proofs.joiner.joined_from.Given as goal

abbrev pub invariant-loop-next : goal.invariant-loop-next
invariant-loop-next l = record {
  scanned : l.joiner.scan ≡ scan_of l.joiner.line.items;
  text : text_from (state_of l.joiner) (lines_of l.rest) ≡ flat_map ended (joined_lines (l.line ∷ lines_of l.behind));
}

abbrev pub decreases-loop-next : goal.decreases-loop-next
decreases-loop-next l = length l.rest
