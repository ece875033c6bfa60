use Rattle.std.proofs.Common.{All, take}
use Rattle.ti_without.specs.Without.{IsNeeded}
use Rattle.ti_without.proofs.returning.less_left.Given as goal

abbrev pub invariant-loop-one : goal.invariant-loop-one
invariant-loop-one l = All (IsNeeded l.entry l.fn.size.rows l.fn.size.cols l.left) (take l.one-index l.left)
