-- The cells visited so far are rewritten, and the others are unchanged.
use Rattle.std.proofs.Common.{◌≡◌, ℕ, ◌<◌, ◌≤◌, length, get_or}
use Rattle.grids.proofs.rewrites.redraw_part.Given as goal

abbrev pub invariant-loop-k : goal.invariant-loop-k
invariant-loop-k g l = record {
  len : length l.cells ≡ length l.fn.cells;
  inside : (j : ℕ) (d : _) → l.from ≤ j → j < l.k → get_or l.cells j d ≡ g.R.Rule.made l.rule (get_or l.fn.cells j d);
  before : (j : ℕ) (d : _) → j < l.from → get_or l.cells j d ≡ get_or l.fn.cells j d;
  behind : (j : ℕ) (d : _) → l.k ≤ j → get_or l.cells j d ≡ get_or l.fn.cells j d;
}
