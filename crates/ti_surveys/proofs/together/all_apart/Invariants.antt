use Rattle.std.proofs.Common.{◌≡◌, length, take}
use Rattle.std.specs.List.{AllByRecursion}
use Rattle.ti_source.specs.Fitting.{FieldsFit, NamesFit}
use Rattle.ti_surveys.specs.Together.{ArePutApart, all_in}
use Rattle.ti_surveys.proofs.together.all_apart.Given as goal

-- the source's own entries, and those of the further files so far
abbrev pub invariant-loop-file : goal.invariant-loop-file
invariant-loop-file l = record {
  put : ArePutApart (record { raws = l.fn.own.raws.items; faults = l.fn.own.faults.items }) (take l.file-index l.further) (all_in l.all);
  fit : AllByRecursion FieldsFit l.all.raws.items;
  named : NamesFit l.all.raws.items l.all.faults.items;
  beside : length l.all.faults.items ≡ length l.all.raws.items;
}
