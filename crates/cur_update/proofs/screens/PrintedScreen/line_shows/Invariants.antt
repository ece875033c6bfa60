-- For each cell passed, it is noted whether it is printed so; for each other cell, whether it may be.
use Rattle.std.proofs.Common.{◌≡◌, ◌<◌, ◌≤◌, ℕ, false, length, not, slice_index_or}
use Rattle.cur_drawing.specs.Cells.{space}
use Rattle.cur_update.specs.Inks.{is_other}
use Rattle.cur_update.proofs.Notes.{AreNoted}
use Rattle.cur_update.proofs.screens.PrintedScreen.line_shows.Given as goal

abbrev pub invariant-loop-n : goal.invariant-loop-n
invariant-loop-n l = record {
  size : length l.shown ≡ length l.fn.shown;
  found : AreNoted l.self.means.now l.self.screen.now l.line l.ink l.text l.n l.shown;
  rest : (k : ℕ) → l.n ≤ k → k < length l.line → slice_index_or l.shown k false ≡ not (is_other (slice_index_or l.line k space) (slice_index_or l.text k 0));
}
