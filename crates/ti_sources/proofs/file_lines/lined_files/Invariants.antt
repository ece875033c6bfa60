use Rattle.std.proofs.Common.{◌≡◌, map, take}
use Rattle.ti_sources.specs.LinedFiles.{file_text, texts_of_files}
use Rattle.ti_sources.proofs.file_lines.lined_files.Given as goal

-- the first file, and the further ones so far
abbrev pub invariant-loop-file : goal.invariant-loop-file
invariant-loop-file l = map file_text l.files.items ≡ texts_of_files l.path l.text (take l.file-index l.further)
