-- The lines visited so far are filled with `cell`, and the others are unchanged.
use Rattle.std.proofs.Common.{◌≡◌, ℕ, ◌<◌, ◌≤◌, length, replicate}
use Rattle.grids.specs.Grids.{line_at}
use Rattle.grids.proofs.scrolls.fill_each_line.Given as goal

abbrev pub invariant-loop-i : goal.invariant-loop-i
invariant-loop-i g l = record {
  len : length l.lines ≡ length l.fn.lines;
  filled : (k : ℕ) → l.from ≤ k → k < l.i → line_at l.lines k ≡ replicate (length (line_at l.fn.lines k)) l.cell;
  before : (k : ℕ) → k < l.from → line_at l.lines k ≡ line_at l.fn.lines k;
  behind : (k : ℕ) → l.i ≤ k → line_at l.lines k ≡ line_at l.fn.lines k;
}
