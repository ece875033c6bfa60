use Rattle.std.proofs.Common.{ℕ, ◌<◌}
use Rattle.ti_conforms.specs.CupReach as spec
use Rattle.ti_conforms.proofs.cup_reach.reach_cup.Given as goal

-- the places of the rows above are reached
abbrev pub invariant-loop-row : goal.invariant-loop-row
invariant-loop-row l = (row : ℕ) → row < l.row → spec.ReachesInRow l.string l.size.rows l.size.cols row l.size.cols
