-- Each pass so far has added one element.
use Rattle.std.proofs.Common.{◌≡◌, replicate}
use Rattle.cur_screens.specs.VirtualScreen.{default_colors}
use Rattle.cur_screens.proofs.virtual_screen.default_pairs.Given as goal

abbrev pub invariant-loop-k : goal.invariant-loop-k
invariant-loop-k l = l.pairs.items ≡ replicate l._k default_colors
