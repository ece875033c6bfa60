use Rattle.std.proofs.Common.{◌≡◌, ◌<◌, ℕ}
use Rattle.ti_checker.specs.Cells.{becomes_blank}
use Rattle.ti_checker.proofs.cells.line_differs.Given as goal

abbrev pub invariant-loop-j : goal.invariant-loop-j
invariant-loop-j l = (k : ℕ) → k < l.j → becomes_blank l.first l.probe l.i k ≡ becomes_blank l.second l.probe l.i k
