use Rattle.std.proofs.Common.{◌≡◌, ◌<◌, ℕ}
use Rattle.ti_checker.specs.Cells.{becomes_blank}
use Rattle.ti_checker.proofs.cells.cells_differ.Given as goal

abbrev pub invariant-loop-i : goal.invariant-loop-i
invariant-loop-i l = (k j : ℕ) → k < l.i → j < l.size.cols → becomes_blank l.first l.probe k j ≡ becomes_blank l.second l.probe k j
