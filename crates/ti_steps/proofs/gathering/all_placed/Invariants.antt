use Rattle.std.proofs.Common.{take}
use Rattle.std.specs.List.{AllByRecursion}
use Rattle.ti_steps.specs.Remedies.{ArePlaced, Fits}
use Rattle.ti_steps.proofs.gathering.all_placed.Given as goal

abbrev pub invariant-loop-advice : goal.invariant-loop-advice
invariant-loop-advice l = record {
  placed : ArePlaced l.index.raws.now l.root (take l.advice-index l.advices) l.remedies.items;
  fits : AllByRecursion Fits l.remedies.items;
}
