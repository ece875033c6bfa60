use Rattle.std.specs.List.{AllByRecursion}
use Rattle.ti_steps.specs.Parts.{AreParts}
use Rattle.ti_repairs.specs.Advices.{Fits, IsAdvisedAt}
use Rattle.ti_repairs.proofs.suggestions.all_advices.Given as goal

-- the suggestions for what is listed before this one
abbrev pub invariant-loop-one : goal.invariant-loop-one
invariant-loop-one l = record {
  advised : AreParts (IsAdvisedAt l.entry l.mended l.listed) l.one-index l.advices.items;
  fits : AllByRecursion Fits l.advices.items;
}
