-- The remaining windows have a child if all of them have.
use Rattle.std.proofs.Common.{◌≡◌, drop}
use Rattle.cur_windows.specs.Creations.{has_child}
use Rattle.cur_windows.proofs.creations.has_child.Given as goal

abbrev pub invariant-loop-k : goal.invariant-loop-k
invariant-loop-k l = has_child l.n l.k (drop l.k l.windows) ≡ has_child l.n 0 l.windows
