use Rattle.std.proofs.Common.{◌≡◌, ◌<◌, ◌≤◌, ◌-◌, ℕ, Some, length, slice_index_or}
use Rattle.cur_drawing.specs.Cells.{space}
use Rattle.cur_steps.specs.Inks.{byte_as}
use Rattle.cur_update.specs.Inks.{printed_cell}
use Rattle.cur_update.proofs.screens.PrintedScreen.line_text.Given as goal

abbrev pub invariant-loop-n : goal.invariant-loop-n
invariant-loop-n l = record {
  within : l.n ≤ length l.line;
  room : l.n ≤ length l.text;
  length : length l.text ≡ length l.fn.text;
  characters : (k : ℕ) → k < l.n
      → byte_as (printed_cell l.self.means.now l.self.screen.now (slice_index_or l.line k space)) (printed_cell l.self.means.now l.self.screen.now l.other) ≡ Some (slice_index_or l.text k 0);
}

abbrev pub decreases-loop-n : goal.decreases-loop-n
decreases-loop-n l = length l.line - l.n
