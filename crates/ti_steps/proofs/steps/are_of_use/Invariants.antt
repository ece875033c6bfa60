use Rattle.std.proofs.Common.{take}
use Rattle.std.specs.List.{AllByRecursion}
use Rattle.ti_steps.specs.Steps.{IsEarned}
use Rattle.ti_steps.proofs.steps.are_of_use.Given as goal

-- the remedies so far are of use
abbrev pub invariant-loop-one : goal.invariant-loop-one
invariant-loop-one g l = AllByRecursion (IsEarned (g.A.Adviser.finds l.adviser) l.olds.raws.now l.news.raws.now) (take l.one-index l.taken)
