use Rattle.std.proofs.Common.{◌≤◌, ◌<◌, ℕ}
use Rattle.ti_blames.specs.Values.{IsCut}
use Rattle.ti_blames.proofs.values.cut_from.Given as goal

-- no place from the first one up to this one is a cut
abbrev pub invariant-loop-place : goal.invariant-loop-place
invariant-loop-place l = (other : ℕ) → l.first ≤ other → other < l.place → IsCut l.text l.bytes l.count other → ⊥
