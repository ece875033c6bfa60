use Rattle.std.proofs.Common.{◌≡◌, ◌<◌, ℕ, false, length, not, true, slice_index_or}
use Rattle.cur_drawing.specs.Cells.{space}
use Rattle.cur_update.specs.Inks.{IsBare, is_other}
use Rattle.cur_update.proofs.shortcuts.note_alike.Given as goal

abbrev pub invariant-loop-n : goal.invariant-loop-n
invariant-loop-n l = record {
  length : length l.shown ≡ length l.fn.shown;
  bare : l.are_bare ≡ true → (k : ℕ) → k < l.n → slice_index_or l.shown k false ≡ true → IsBare (slice_index_or l.line k space);
  alike : (k : ℕ) → k < l.n → slice_index_or l.shown k false ≡ not (is_other (slice_index_or l.line k space) (slice_index_or l.text k 0));
}
