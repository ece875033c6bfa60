use Rattle.std.proofs.Common.{◌≡◌, ◌++◌, take}
use Rattle.ti_conforms.specs.Resync.{texts_of}
use Rattle.ti_cert.specs.Table.{table_of}
use Rattle.ti_cert.proofs.verification.add_all.Given as goal

abbrev pub invariant-loop-row : goal.invariant-loop-row
invariant-loop-row l = l.text.items ≡ l.fn.text.items ++ texts_of (table_of l.table).line_of (take l.row-index l.rows)
