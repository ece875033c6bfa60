use Rattle.std.proofs.Common.{◌≤◌, ◌+◌, ◌-◌, ◌++◌, List, drop, length}
use Rattle.ti_diffs.specs.Pieces.{IsDiff, lines_of}
use Rattle.ti_diffs.specs.declared.pieces.Piece.{Piece}
use Rattle.ti_diffs.proofs.pieces.pieces_of.Given as goal

-- both lists have the lines so far, whose pieces, with those of the rest, are those of both lists
abbrev pub invariant-loop-passed : goal.invariant-loop-passed
invariant-loop-passed l = (l.passed ≤ length l.old) × (l.added ≤ length l.new)
    × ((rest : List Piece) → IsDiff rest (lines_of (drop l.passed l.old)) (lines_of (drop l.added l.new)) → IsDiff (l.pieces.items ++ rest) (lines_of l.old) (lines_of l.new))

abbrev pub decreases-loop-passed : goal.decreases-loop-passed
decreases-loop-passed l = (length l.old - l.passed) + (length l.new - l.added)
