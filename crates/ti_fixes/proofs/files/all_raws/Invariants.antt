use Rattle.std.proofs.Common.{◌≡◌, take}
use Rattle.ti_fixes.specs.Files.{sheets}
use Rattle.ti_fixes.specs.Files as spec
use Rattle.ti_fixes.proofs.files.all_raws.Given as goal

-- the entries of the files before this one
abbrev pub invariant-loop-file : goal.invariant-loop-file
invariant-loop-file l = l.raws.items ≡ spec.all_raws (sheets (take l.file-index l.files))
