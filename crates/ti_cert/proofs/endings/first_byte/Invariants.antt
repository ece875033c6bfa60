use Rattle.std.proofs.Common.{◌≡◌, drop}
use Rattle.ti_conforms.specs.Resync.{texts_of}
use Rattle.ti_cert.specs.Strings.{row_string}
use Rattle.ti_cert.specs.Table.{head_of}
use Rattle.ti_cert.proofs.endings.first_byte.Given as goal

abbrev pub invariant-loop-row : goal.invariant-loop-row
invariant-loop-row l = head_of (texts_of (λ row. row_string l.strings row) (drop l.row-index l.rows)) ≡ head_of (texts_of (λ row. row_string l.strings row) l.rows)
