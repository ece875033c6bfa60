use Rattle.std.proofs.Common.{◌≡◌, length}
use Rattle.std.specs.List.{AllByRecursion}
use Rattle.ti_fixes.specs.Files.{all_raws, sheets}
use Rattle.ti_steps.specs.Steps.{AreSteps}
use Rattle.ti_source.specs.Raw.{IsRaw}
use Rattle.ti_rounds.proofs.rounds.after_rounds.Given as goal

-- the files after the steps so far
abbrev pub invariant-loop-round : goal.invariant-loop-round
invariant-loop-round g l = record {
  steps : AreSteps (g.A.Adviser.finds l.adviser) (sheets l.fn.source.files.items) (sheets l.texts.files.items);
  whole : l.texts.raws.items ≡ all_raws (sheets l.texts.files.items);
  fit : AllByRecursion IsRaw l.texts.raws.items;
  many : length l.texts.raws.items ≡ length l.fn.source.raws.items;
}
