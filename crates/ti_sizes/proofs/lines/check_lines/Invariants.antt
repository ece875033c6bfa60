use Rattle.std.proofs.Common.{◌<◌, ℕ}
use Rattle.ti_sizes.specs.Lines.{CapIsSteady}
use Rattle.ti_sizes.proofs.lines.check_lines.Given as goal

abbrev pub invariant-loop-order : goal.invariant-loop-order
invariant-loop-order g l = (k : ℕ) → k < l.order → CapIsSteady (g.L.LinesByRow.line_of l.lines) k
