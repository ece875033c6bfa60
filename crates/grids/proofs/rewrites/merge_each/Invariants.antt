-- The cells visited so far are merged, and the rest is unchanged.
use Rattle.std.proofs.Common.{◌≡◌, ℕ, ◌<◌, ◌≤◌, ◌+◌, ◌-◌, length, get_or}
use Rattle.grids.proofs.rewrites.merge_each.Given as goal

abbrev pub invariant-loop-k : goal.invariant-loop-k
invariant-loop-k g l = record {
  len : length l.cells ≡ length l.fn.cells;
  inside : (j : ℕ) (d : _) → l.pass.to ≤ j → j < l.pass.to + l.k → get_or l.cells j d ≡ g.R.Merge.merged l.rule (get_or l.fn.cells j d) (get_or l.source (l.pass.from + (j - l.pass.to)) d);
  before : (j : ℕ) (d : _) → j < l.pass.to → get_or l.cells j d ≡ get_or l.fn.cells j d;
  behind : (j : ℕ) (d : _) → l.pass.to + l.k ≤ j → get_or l.cells j d ≡ get_or l.fn.cells j d;
}
