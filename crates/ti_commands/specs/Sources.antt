-- An entry together with its source text.
use Rattle.std.specs.Prelude.{List, ℕ, Option, Some, None, Ok}
use Rattle.ti_caps.specs.Entry.{Content}
use Rattle.ti_files.specs.Contents.{Held}
use Rattle.ti_commands.specs.Findings.{IsOfText, IsPath, IsPathAndName}
use Rattle.ti_commands.specs.Further.{Together}
use Rattle.ti_commands.specs.Replies.{GivesEntry}
use Rattle.ti_commands.specs.declared.sources.SourceText.{SourceText}

-- all entries of the source and of the files of `--with`
abbrev pub together_of : SourceText → Together
together_of source = record {
  raws = source.raws.items;
  files = source.further.items;
  counts = source.counts.items;
}

-- the text in the file at the word's path, which has the entry under the word's name
pub record StandsIn (held : Held) (word : List ℕ) (entry : Content) (source : SourceText) : Type 0 where
  pub split : IsPathAndName word source.path.now source.name.now
  pub stands : IsOfText held source.path.now source.name.now source.text.items (together_of source) (Ok entry)

-- the word gives this entry of a source text, or of a compiled file, which has no source
abbrev pub IsSourced : Held → List ℕ → Content → Option SourceText → Type 0
IsSourced held word entry (Some source) = StandsIn held word entry source
IsSourced held word entry None = IsPath word × GivesEntry held word entry
