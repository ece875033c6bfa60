-- The remaining rows, after those so far, are all rows.
use Rattle.std.proofs.Common.{◌≡◌, [], drop}
use Rattle.vt_states.specs.Json.{rows_behind}
use Rattle.vt_states.proofs.rows.row_items.Given as goal

abbrev pub invariant-loop-row : goal.invariant-loop-row
invariant-loop-row l = rows_behind l.items.items (drop l.row l.terminal.screen.grid) ≡ rows_behind [] l.terminal.screen.grid
