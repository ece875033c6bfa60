-- The files of a source.
use Rattle.ti_commands.specs.declared.sources.SourceText.{SourceText}
use Rattle.ti_sources.specs.LinedFiles.{PutFiles, texts_of_files}

-- the source first, and then the files of `--with`
abbrev pub files_of : SourceText → PutFiles
files_of source = record {
  texts = texts_of_files source.path.now source.text.items source.further.items;
  counts = source.counts.items;
}
