use Rattle.std.proofs.Common.{◌≡◌, ◌≤◌, ◌+◌, drop, length}
use Rattle.ti_diffs.specs.Pieces.{common, lines_of}
use Rattle.ti_diffs.proofs.pieces.common.Given as goal

-- the lines so far are common, and both lists have them
abbrev pub invariant-loop-place : goal.invariant-loop-place
invariant-loop-place l =
    (common (lines_of l.old) (lines_of l.new) ≡ l.place + common (lines_of (drop l.place l.old)) (lines_of (drop l.place l.new)))
    × (l.place ≤ length l.new)
