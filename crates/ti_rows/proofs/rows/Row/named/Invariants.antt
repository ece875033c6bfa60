use Rattle.std.proofs.Common.{◌≢◌, ◌<◌, ℕ}
use Rattle.ti_rows.specs.Names.{name_in_order}
use Rattle.ti_rows.proofs.rows.Row.named.Given as goal

-- no earlier name has this text
abbrev pub invariant-loop-order : goal.invariant-loop-order
invariant-loop-order l = (k : ℕ) → k < l.order → name_in_order k ≢ l.text
