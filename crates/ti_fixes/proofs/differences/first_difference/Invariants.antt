use Rattle.std.proofs.Common.{◌<◌, ℕ}
use Rattle.ti_fixes.specs.Changes.{IsChangedAt}
use Rattle.ti_fixes.proofs.differences.first_difference.Given as goal

-- the entries before this one have the changes for their places
abbrev pub invariant-loop-place : goal.invariant-loop-place
invariant-loop-place l = (k : ℕ) → k < l.place → IsChangedAt l.changes l.olds l.news k
