use Rattle.std.proofs.Common.{◌≡◌, ◌<◌, ℕ}
use Rattle.ti_caps.specs.Entry.{value_at}
use Rattle.ti_caps.specs.Table.{place_of_rank}
use Rattle.ti_steps.proofs.entries.same_values.Given as goal

-- the values of the capabilities with lower ranks are the same
abbrev pub invariant-loop-rank : goal.invariant-loop-rank
invariant-loop-rank l = (k : ℕ) → k < l.rank → value_at l.one (place_of_rank k) ≡ value_at l.other (place_of_rank k)
