use Rattle.std.proofs.Common.{◌≡◌, take}
use Rattle.std.specs.List.{AllByRecursion}
use Rattle.ti_fixes.proofs.FileFacts.{FitsChange}
use Rattle.ti_steps.specs.Steps.{changes_of}
use Rattle.ti_steps.proofs.steps.changes_of.Given as goal

-- the changes of the remedies so far
abbrev pub invariant-loop-one : goal.invariant-loop-one
invariant-loop-one l = record {
  changes : l.changes.items ≡ changes_of (take l.one-index l.taken);
  fits : AllByRecursion FitsChange l.changes.items;
}
