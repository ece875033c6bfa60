-- The characters so far.
use Rattle.std.proofs.Common.{◌≡◌, ◌++◌, take, map}
use Rattle.vt_screen.specs.Look.{Look}
use Rattle.vt_screen.proofs.printer.push_characters.Given as goal

abbrev pub invariant-loop-cell : goal.invariant-loop-cell
invariant-loop-cell l = l.text.items ≡ l.fn.text.items ++ map (λ (x : Look). x.byte) (take l.cell-index l.cells)
