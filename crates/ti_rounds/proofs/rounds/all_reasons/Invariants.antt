use Rattle.std.proofs.Common.{◌≡◌, map, take}
use Rattle.std.specs.List.{AllByRecursion}
use Rattle.ti_steps.specs.Reasons.{IsKept}
use Rattle.ti_rounds.proofs.rounds.all_reasons.Given as goal

-- the remedies so far, each with its reason
abbrev pub invariant-loop-at : goal.invariant-loop-at
invariant-loop-at g l = record {
  all : map (λ one. one.remedy) l.kept.items ≡ take l.at l.remedies;
  reasons : AllByRecursion (IsKept (g.A.Adviser.finds l.adviser) l.index.raws.now) l.kept.items;
}
