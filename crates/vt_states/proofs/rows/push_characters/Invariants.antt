-- The characters so far.
use Rattle.std.proofs.Common.{◌≡◌, ◌++◌, take}
use Rattle.std.specs.List.{flat_map}
use Rattle.vt_term.specs.Look.{Look}
use Rattle.vt_states.specs.Json.{escaped}
use Rattle.vt_states.proofs.rows.push_characters.Given as goal

abbrev pub invariant-loop-cell : goal.invariant-loop-cell
invariant-loop-cell l = l.items.items ≡ l.fn.items.items ++ flat_map (λ (x : Look). escaped x.byte) (take l.cell-index l.cells)
