use Rattle.std.proofs.Common.{◌≡◌, ◌++◌, [], length, take}
use Rattle.std.specs.List.{AllZip}
use Rattle.ti_fixes.specs.Files.{all_raws, sheets}
use Rattle.ti_repairs.specs.Texts.{IsSheetOf}
use Rattle.ti_repairs.proofs.texts.further_texts.Given as goal

-- the files before this one; the last one has all entries that are left
abbrev pub invariant-loop-place : goal.invariant-loop-place
invariant-loop-place l = record {
  each : AllZip IsSheetOf (take l.place l.further) (sheets l.texts.items);
  joined : all_raws (sheets l.texts.items) ++ l.rest ≡ l.raws;
  ended : l.place ≡ length l.further → l.rest ≡ [];
}
