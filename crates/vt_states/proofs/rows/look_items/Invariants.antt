-- The runs of the remaining rows, after those so far, are all runs.
use Rattle.std.proofs.Common.{◌≡◌, [], drop}
use Rattle.vt_states.specs.Json.{looks_behind}
use Rattle.vt_states.proofs.rows.look_items.Given as goal

abbrev pub invariant-loop-row : goal.invariant-loop-row
invariant-loop-row l = looks_behind l.items.items l.row (drop l.row l.terminal.screen.grid) ≡ looks_behind [] 0 l.terminal.screen.grid
