-- The pairs before this one, and those from the last one on, have the same colors.
use Rattle.std.proofs.Common.{ℕ, ◌≡◌, ◌<◌, ◌≤◌, ◌⊎◌, length, slice_index_or}
use Rattle.cur_screens.specs.VirtualScreen.{default_colors}
use Rattle.cur_screens.proofs.virtual_screen.copy_colors.Given as goal

abbrev pub invariant-loop-pair : goal.invariant-loop-pair
invariant-loop-pair l = record {
  size : length l.pairs ≡ 64;
  same : (p : ℕ) → (p < l.pair) ⊎ (l.end ≤ p) → slice_index_or l.pairs p default_colors ≡ slice_index_or l.source p default_colors;
}
