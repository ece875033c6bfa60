use Rattle.std.proofs.Common.{◌≡◌, ◌<◌, ℕ, true, slice_index_or}
use Rattle.cur_drawing.specs.Windows.{is_printed}
use Rattle.cur_screens.proofs.touched.are_printed.Given as goal

abbrev pub invariant-loop-k : goal.invariant-loop-k
invariant-loop-k l = (k : ℕ) → k < l.k → is_printed (slice_index_or l.text k 0) ≡ true
