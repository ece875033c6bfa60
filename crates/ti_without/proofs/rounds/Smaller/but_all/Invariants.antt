use Rattle.std.proofs.Common.{take}
use Rattle.ti_without.specs.Going.{LeavesAll}
use Rattle.ti_without.proofs.rounds.Smaller.but_all.Given as goal

abbrev pub invariant-loop-no : goal.invariant-loop-no
invariant-loop-no l = LeavesAll l.fn.self (take l.no-index l.nos) l.smaller
