use Rattle.std.proofs.Common.{◌≡◌, drop, map}
use Rattle.ti_sources.specs.Originals.{original_at}
use Rattle.ti_sources.specs.LinedFiles.{file_text}
use Rattle.ti_sources.proofs.originals.original_at.Given as goal

-- the texts behind those that were passed decide
abbrev pub invariant-loop-file : goal.invariant-loop-file
invariant-loop-file l = original_at (map file_text (drop l.file-index l.originals)) l.path ≡ original_at (map file_text l.originals) l.path
