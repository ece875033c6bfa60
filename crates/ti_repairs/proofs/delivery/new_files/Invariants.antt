use Rattle.std.proofs.Common.{take}
use Rattle.std.specs.List.{AllZip}
use Rattle.ti_repairs.specs.Delivery.{IsPlaced, changed_ones}
use Rattle.ti_fixes.specs.Files.{sheets}
use Rattle.ti_repairs.proofs.delivery.new_files.Given as goal

-- those of the files so far that have changed are in the folder
abbrev pub invariant-loop-file : goal.invariant-loop-file
invariant-loop-file l = AllZip (IsPlaced l.folder) (changed_ones (sheets (take l.file-index l.files))) l.news.items
