use Rattle.std.proofs.Common.{◌<◌, ℕ}
use Rattle.ti_steps.specs.Steps.{IsFairAt}
use Rattle.ti_steps.proofs.steps.is_fair_to_all.Given as goal

-- the step is fair to the entries before this one
abbrev pub invariant-loop-place : goal.invariant-loop-place
invariant-loop-place g l = (k : ℕ) → k < l.place → IsFairAt (g.A.Adviser.finds l.adviser) l.taken l.olds.raws.now l.news.raws.now k
