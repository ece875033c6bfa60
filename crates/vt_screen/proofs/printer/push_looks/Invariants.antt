-- The text so far with that of the remaining lines is the whole.
use Rattle.std.proofs.Common.{◌≡◌, ◌+◌, ◌++◌, drop}
use Rattle.vt_screen.specs.Printed as spec
use Rattle.vt_screen.proofs.printer.push_looks.Given as goal

abbrev pub invariant-loop-k : goal.invariant-loop-k
invariant-loop-k l = l.text.items ++ spec.looks_text (l.first + l.k) (drop l.k l.lines) ≡ l.fn.text.items ++ spec.looks_text l.first l.lines
