-- The bytes visited so far are characters.
use Rattle.std.proofs.Common.{ℕ, ◌<◌, slice_index}
use Rattle.cur_drawing.specs.Cells.{IsPrinted}
use Rattle.cur_drawing.proofs.strings.printed_front.Given as goal

abbrev pub invariant-loop-k : goal.invariant-loop-k
invariant-loop-k l = (k : ℕ) → k < l.k → IsPrinted (slice_index l.text k)
