use Rattle.std.proofs.Common.{◌<◌, ℕ}
use Rattle.ti_conforms.specs.Entries.{CapAgrees}
use Rattle.ti_forms.proofs.agreement.entry_agrees.Given as goal

abbrev pub invariant-loop-order : goal.invariant-loop-order
invariant-loop-order g l = (k : ℕ) → k < l.order → CapAgrees l.size.rows l.size.cols l.entry (g.L.LinesByRow.line_of l.lines) k
