-- Each pass so far has added one element.
use Rattle.std.proofs.Common.{◌≡◌, replicate, []}
use Rattle.cur_windows.proofs.desks.empty_grids.Given as goal

abbrev pub invariant-loop-k : goal.invariant-loop-k
invariant-loop-k l = l.grids.items ≡ replicate l._k []
