use Rattle.std.specs.List.{AllByRecursion}
use Rattle.ti_steps.specs.Parts.{AreParts}
use Rattle.ti_steps.specs.Remedies.{Fits, IsAdvisedAt}
use Rattle.ti_steps.proofs.gathering.all_remedies.Given as goal

-- what is advised for the entries before this one
abbrev pub invariant-loop-root : goal.invariant-loop-root
invariant-loop-root g l = record {
  advised : AreParts (IsAdvisedAt (g.A.Adviser.advises l.adviser) l.index.raws.now) l.root l.remedies.items;
  fits : AllByRecursion Fits l.remedies.items;
}
