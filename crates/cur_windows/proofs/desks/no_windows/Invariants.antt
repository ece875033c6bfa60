-- Each pass so far has added one element.
use Rattle.std.proofs.Common.{◌≡◌, replicate, None}
use Rattle.cur_windows.proofs.desks.no_windows.Given as goal

abbrev pub invariant-loop-k : goal.invariant-loop-k
invariant-loop-k l = l.windows.items ≡ replicate l._k None
