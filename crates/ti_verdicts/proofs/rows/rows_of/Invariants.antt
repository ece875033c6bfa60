use Rattle.std.proofs.Common.{◌≡◌}
use Rattle.ti_verdicts.specs.Rows.{rows_of}
use Rattle.ti_verdicts.proofs.rows.rows_of.Given as goal

-- the rows of the lines that were passed
abbrev pub invariant-loop-passed : goal.invariant-loop-passed
invariant-loop-passed l = l.lines.items ≡ rows_of l.text l.region l.passed
