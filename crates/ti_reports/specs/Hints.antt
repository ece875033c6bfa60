-- The place of a hint about a field of an entry's source text.
use Rattle.std.specs.Prelude.{◌≡◌, ℕ, List, Option, Some, map, option_map, slice_get}
use Rattle.std.specs.String.{string_bytes}
use Rattle.ti_commands.specs.Further.{own_raws}
use Rattle.ti_hints.specs.declared.hints.FieldHint.{FieldHint}
use Rattle.ti_sources.specs.declared.joined_places.Region.{Region}
use Rattle.ti_reports.specs.Names.{HasName}
use Rattle.ti_reports.specs.declared.hints.HintSource.{HintSource}
use Rattle.ti_reports.specs.declared.places.ValuePlace.{ValuePlace}
use Rattle.ti_resolve.specs.Uses.{names_at}
use Rattle.ti_source.specs.declared.types.RawEntry.{RawEntry}
use Rattle.ti_verdicts.specs.Locations.{first_name}
use Rattle.ti_sources.specs.Originals.{begun_line, region_at}
use Rattle.ti_sources.specs.LinedFiles.{FileText, Line, PutFiles, file_text}

-- a source text about which hints are given: its path, its entries, and the texts of files before their lines were
-- joined
pub record HintText : Type 0 where
  pub path : List ℕ
  pub text : List ℕ
  pub raws : List RawEntry
  pub originals : List FileText

abbrev pub text_with : List FileText → List RawEntry → FileText → HintText
text_with originals raws file = record {
  path = file.path;
  text = file.text;
  raws = raws;
  originals = originals;
}

-- hints are about the first of the files whose entries were put together, and not about those of `--with`
abbrev pub hint_text : List FileText → PutFiles → List RawEntry → Option HintText
hint_text originals files raws =
    option_map (text_with originals (own_raws files.counts raws)) (slice_get files.texts 0)

-- the line of a hint in its file
abbrev pub line_hinted : HintText → FieldHint → Line
line_hinted text hint = record { path = text.path; number = hint.line }

-- the region of the field that a hint is about, if it is about one
abbrev pub region_hinted : HintText → FieldHint → Option Region
region_hinted text hint = option_map (region_at text.originals (line_hinted text hint)) hint.columns

-- the file and the line of the hint, the region of its field, and the entry that has the field
pub record IsHintPlace (text : HintText) (hint : FieldHint) (place : ValuePlace) : Type 0 where
  pub line : place.line ≡ Some (begun_line (line_hinted text hint) (region_hinted text hint)).number
  pub path : option_map (λ p. string_bytes p) place.file ≡ Some text.path
  pub region : place.region ≡ region_hinted text hint
  pub holder : HasName (first_name (names_at text.raws hint.entry)) place.entry

-- (Serves the code alone.) the text without its memory
abbrev pub text_in : HintSource → HintText
text_in source = record {
  path = source.path.now;
  text = source.lined.now;
  raws = source.raws.now;
  originals = map file_text source.originals.now;
}
