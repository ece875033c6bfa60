-- The lines visited so far have no mark.
use Rattle.std.proofs.Common.{ℕ, ◌≡◌, ◌<◌, ◌≤◌, ◌⊎◌, length, slice_index_or}
use Rattle.cur_screens.specs.Marks.{nothing}
use Rattle.cur_screens.proofs.marks.clear_lines.Given as goal

abbrev pub invariant-loop-k : goal.invariant-loop-k
invariant-loop-k l = record {
  size : length l.lines ≡ length l.fn.lines;
  others : (i : ℕ) → (i < l.k) ⊎ (l.fn.rows.end ≤ i) → slice_index_or l.lines i nothing ≡ nothing;
}
