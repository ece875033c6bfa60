use Rattle.cur_steps.proofs.RowTexts.{IsSentTo}
use Rattle.cur_steps.proofs.lines.send_rows.Given as goal

abbrev pub invariant-loop-row : goal.invariant-loop-row
invariant-loop-row g l = IsSentTo g.W.Wire.went l.fn.wire l.wire (g.C.Certificate.table l.checked) l.rows l.row-index
