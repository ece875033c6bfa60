-- The screen's marks are added to the grids visited so far.
use Rattle.std.proofs.Common.{◌≡◌, ◌≢◌, ◌<◌, ◌≤◌, ◌⊎◌, ℕ, length}
use Rattle.cur_screens.specs.Marks.{JoinsMarks}
use Rattle.cur_screens.specs.Touched.{grid_marks}
use Rattle.cur_screens.proofs.touched.spread_over.Given as goal

abbrev pub invariant-loop-k : goal.invariant-loop-k
invariant-loop-k l = record {
  size : length l.grids.items ≡ length l.fn.grids.items;
  before : (k : ℕ) → k < l.k → k ≢ l.but → JoinsMarks (grid_marks l.fn.grids.items k) l.marks l.size.rows l.size.cols (grid_marks l.grids.items k);
  rest : (k : ℕ) → (l.k ≤ k) ⊎ (k ≡ l.but) → grid_marks l.grids.items k ≡ grid_marks l.fn.grids.items k;
}
