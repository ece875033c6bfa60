-- The cells before this one.
use Rattle.std.proofs.Common.{ℕ, ◌<◌, get_or}
use Rattle.cur_drawing.specs.Cells.{IsCell, space}
use Rattle.cur_drawing.proofs.cells.all_cells.Given as goal

abbrev pub invariant-loop-k : goal.invariant-loop-k
invariant-loop-k l = (k : ℕ) → k < l.k → IsCell (get_or l.cells k space)
