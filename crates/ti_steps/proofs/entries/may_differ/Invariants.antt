use Rattle.std.proofs.Common.{◌<◌, ℕ}
use Rattle.ti_caps.specs.Table.{place_of_rank}
use Rattle.ti_steps.specs.Steps.{DiffersFairly}
use Rattle.ti_steps.proofs.entries.may_differ.Given as goal

-- the values of the capabilities with lower ranks change as they may
abbrev pub invariant-loop-rank : goal.invariant-loop-rank
invariant-loop-rank l = (k : ℕ) → k < l.rank → DiffersFairly l.change.old.now l.whole l.change.taken.now l.before l.after (place_of_rank k)
