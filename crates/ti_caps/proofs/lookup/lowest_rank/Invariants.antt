use Rattle.std.proofs.Common.{◌-◌, ℕ, ◌<◌, ◌≤◌}
use Rattle.ti_caps.specs.Table.{rank_key}
use Rattle.ti_caps.proofs.lookup.lowest_rank.Given as goal

abbrev pub invariant-loop-low : goal.invariant-loop-low
invariant-loop-low l = record {
  order : l.low ≤ l.high;
  within : l.high ≤ 497;
  below : (rank : ℕ) → rank < l.low → rank_key rank < l.key;
  above : (rank : ℕ) → l.high ≤ rank → rank < 497 → l.key ≤ rank_key rank;
}

abbrev pub decreases-loop-low : goal.decreases-loop-low
decreases-loop-low l = l.high - l.low
