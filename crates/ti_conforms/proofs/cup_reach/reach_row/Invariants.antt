use Rattle.ti_conforms.specs.CupReach as spec
use Rattle.ti_conforms.proofs.cup_reach.reach_row.Given as goal

-- the places left of the column are reached
abbrev pub invariant-loop-col : goal.invariant-loop-col
invariant-loop-col l = spec.ReachesInRow l.string l.size.rows l.size.cols l.row l.col
