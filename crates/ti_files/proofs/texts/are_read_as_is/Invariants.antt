use Rattle.std.proofs.Common.{take}
use Rattle.ti_files.specs.Wrapped.{AreReadSo}
use Rattle.ti_files.proofs.texts.are_read_as_is.Given as goal

-- the files so far are read as just their bytes
abbrev pub invariant-loop-file : goal.invariant-loop-file
invariant-loop-file l = AreReadSo (take l.file-index l.files)
