use Rattle.ti_faults.specs.RowFaults.{OfCaps}
use Rattle.ti_faults.proofs.row_faults.row_faults.Given as goal

abbrev pub invariant-loop-place : goal.invariant-loop-place
invariant-loop-place l = OfCaps l.entry l.fn.size.rows l.fn.size.cols l.place l.nos.items
