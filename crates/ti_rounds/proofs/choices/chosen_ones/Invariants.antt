use Rattle.std.specs.List.{AllByRecursion}
use Rattle.ti_steps.specs.Remedies.{Fits}
use Rattle.ti_rounds.proofs.choices.chosen_ones.Given as goal

abbrev pub invariant-loop-at : goal.invariant-loop-at
invariant-loop-at g l = AllByRecursion Fits l.taken.items
