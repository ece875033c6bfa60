use Rattle.std.proofs.Common.{◌+◌, ◌<◌, ℕ}
use Rattle.cur_steps.specs.Gaps.{IsAlike}
use Rattle.cur_moves.proofs.routes.are_alike.Given as goal

abbrev pub invariant-loop-n : goal.invariant-loop-n
invariant-loop-n g l = (k : ℕ) → k < l.n → IsAlike l.belief (g.N.Picture.cells l.shown l.from.row (l.from.col + k))
