use Rattle.std.specs.Prelude.{◌<◌, ℕ}
use Rattle.ti_blames.proofs.pairs.pair_of.Given as goal
use Rattle.ti_blames.specs.Pairs.{HasLetter}

-- no pair before this place has the letter
abbrev pub invariant-loop-place : goal.invariant-loop-place
invariant-loop-place l = (other : ℕ) → other < l.place → HasLetter l.pairs l.letter other → ⊥
