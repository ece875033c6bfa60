-- The pairs before this one have the same colors.
use Rattle.std.proofs.Common.{ℕ, ◌≡◌, ◌<◌, slice_index_or}
use Rattle.cur_screens.specs.VirtualScreen.{default_colors}
use Rattle.cur_screens.proofs.virtual_screen.same_colors.Given as goal

abbrev pub invariant-loop-pair : goal.invariant-loop-pair
invariant-loop-pair l = (p : ℕ) → p < l.pair → slice_index_or l.a p default_colors ≡ slice_index_or l.b p default_colors
