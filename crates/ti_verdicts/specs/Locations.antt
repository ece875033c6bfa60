-- The place of a capability's value in a source text, in the form that editors read.
use Rattle.std.specs.Prelude.{◌≡◌, ◌==◌, ◌-◌, ℕ, List, [], ◌∷◌, ◌++◌, Option, Some, None, codes, if◌then◌else◌, length}
use Rattle.std.specs.Prelude.{option_map}
use Rattle.std.specs.Fmt.{decimal}
use Rattle.std.specs.List.{before_first}
use Rattle.ti_caps.specs.Table.{name_at}
use Rattle.ti_commands.specs.declared.sources.SourceText.{SourceText}
use Rattle.ti_checker.specs.declared.causes.No.{No}
use Rattle.ti_sources.specs.declared.columns.Columns.{Columns}
use Rattle.ti_sources.specs.declared.joined_places.Region.{Region}
use Rattle.ti_resolve.specs.Origins.{IsOriginAt}
use Rattle.ti_resolve.specs.Uses.{names_at, place_named}
use Rattle.ti_resolve.specs.declared.origins.Origin.{Origin}
use Rattle.ti_source.specs.declared.types.RawEntry.{RawEntry}
use Rattle.ti_blames.specs.declared.stretches.Stretch.{Stretch}
use Rattle.ti_verdicts.specs.Excerpts.{IsFaulty, IsFaultyPart, excerpt, value_in}
use Rattle.ti_sources.specs.Originals.{begun_line, original_at, region_among, region_at, region_in}
use Rattle.ti_verdicts.specs.Refusals.{no_text}
use Rattle.ti_verdicts.specs.SourceFiles.{files_of}
use Rattle.ti_verdicts.specs.Rows.{marked_rows}
use Rattle.ti_sources.specs.LinedFiles.{FileText, Line, PutFiles, columns_among, line_among, piece_among, put_files}
use Rattle.ti_verdicts.specs.declared.locations.PlacedFault.{PlacedFault}
use Rattle.ti_verdicts.specs.declared.source_places.SourcePlace.{SourcePlace}
use Rattle.ti_files.specs.Shown.{shown}

-- an entry's first name
abbrev pub first_name : List ℕ → List ℕ
first_name names = before_first (λ b. b == 124) names

-- a colon and the number of a line; nothing in a compiled file, which has no lines
abbrev pub number_text : ℕ → List ℕ
number_text number = if number == 0 then [] else codes ":" ++ decimal number

-- a colon and the column of a field's first byte; nothing if it isn't known
abbrev pub column_text : Option Region → List ℕ
column_text None = []
column_text (Some region) = codes ":" ++ decimal region.column

-- `FILE:LINE:COLUMN: CAP of NAME` by the file's path, the line's number, a field's region and the names of an entry
unfoldable pub numbered_text : Line → Option Region → ℕ → List ℕ → List ℕ
numbered_text line region cap names = line.path ++ (number_text line.number
    ++ (column_text region ++ (codes ": " ++ (name_at cap ++ (codes " of " ++ first_name names)))))

-- by the files of the entries that were put together, with the first name of the entry that has the field
unfoldable pub place_text : List FileText → PutFiles → List RawEntry → ℕ → Origin → List ℕ
place_text originals files raws cap origin =
    numbered_text (begun_line (line_among files origin) (region_among originals files cap origin))
    (region_among originals files cap origin) cap (names_at raws origin.entry)

-- the value of the field between these columns; nothing without columns
abbrev pub piece_value : PutFiles → ℕ → Origin → Option Columns → List ℕ
piece_value files cap origin None = []
piece_value files cap origin (Some columns) = value_in cap (piece_among files columns origin)

-- the value of the field about a capability at an origin, in the file that has it
unfoldable pub value_at : PutFiles → ℕ → Origin → List ℕ
value_at files cap origin = piece_value files cap origin (columns_among files cap origin)

-- the columns of a part of a value that ends where these columns do
abbrev pub part_columns : List ℕ → Columns → Stretch → Columns
part_columns value columns part = record {
  start = columns.end - (length value - part.from);
  end = columns.end - (length value - part.to);
}

-- the region of the part of the value that is at fault, in the field about a capability at an origin
pub record IsFaultyRegion (originals : List FileText) (files : PutFiles) (cap : ℕ) (origin : Origin) (found : Region)
    : Type 0 where
  pub columns : Columns
  pub stand : columns_among files cap origin ≡ Some columns
  pub part : Stretch
  pub faulty : IsFaultyPart (value_in cap (piece_among files columns origin)) part
  pub says : found ≡ region_at originals (line_among files origin)
      (part_columns (value_in cap (piece_among files columns origin)) columns part)

-- the columns of the part of a value that is at fault, or of all of it
abbrev pub marked_columns : Option Stretch → List ℕ → Columns → Columns
marked_columns None value columns = record { start = columns.end - length value; end = columns.end }
marked_columns (Some part) value columns = part_columns value columns part

-- a field about a capability between columns of a line, with marks under the part of its value that is at fault: on one
-- line, or as it is in the text before its lines were joined
abbrev pub shown_field : Option (List ℕ) → ℕ → ℕ → Option Stretch → Columns → List ℕ → List ℕ
shown_field None number cap part columns field = excerpt cap part field
shown_field (Some text) number cap part columns field =
    marked_rows text (region_in (Some text) number columns)
    (region_in (Some text) number (marked_columns part (value_in cap field) columns))

-- the field between these columns of a line; nothing without columns
abbrev pub piece_text : List FileText → PutFiles → ℕ → Origin → Option Stretch → Option Columns → List ℕ
piece_text originals files cap origin part None = []
piece_text originals files cap origin part (Some columns) =
    shown_field (original_at originals (line_among files origin).path) (line_among files origin).number cap part columns
    (piece_among files columns origin)

-- the field about a capability at an origin, in the file that has it, and the marks below it
unfoldable pub excerpt_text : List FileText → PutFiles → ℕ → Option Stretch → Origin → List ℕ
excerpt_text originals files cap part origin =
    piece_text originals files cap origin part (columns_among files cap origin)

-- the line with the place, as far as it can be shown, and the field below it
abbrev pub field_text : List FileText → PutFiles → List RawEntry → ℕ → Option Stretch → Origin → List ℕ
field_text originals files raws cap part origin =
    shown (place_text originals files raws cap origin) ++ 10 ∷ excerpt_text originals files cap part origin

-- the place of an entry: the files of a source and of `--with`, all their entries put together, and the place of this
-- one among them
pub record PlaceInSource : Type 0 where
  pub files : PutFiles
  pub raws : List RawEntry
  pub place : ℕ

-- the place of the entry that has a source's name; none if no entry has it
abbrev pub named_place : SourceText → Option PlaceInSource
named_place source = option_map
    (λ place. record { files = files_of source; raws = source.raws.items; place = place })
    (place_named source.raws.items source.name.now)

-- an entry of a compiled file is in no source
abbrev pub source_place : Option SourceText → Option PlaceInSource
source_place None = None
source_place (Some source) = named_place source

-- the lines are those of the field at an origin, in which a part of the value is at fault, or all of it
abbrev pub TellsOrigin : List FileText → PlaceInSource → ℕ → Option Origin → List ℕ → Type 0
TellsOrigin originals stands cap None lines = lines ≡ []
TellsOrigin originals stands cap (Some origin) lines =
    (part : Option Stretch) × IsFaulty (value_at stands.files cap origin) part
    × (lines ≡ field_text originals stands.files stands.raws cap part origin)

-- The field that gives the entry at its place the value is the first one about it, among the entry's own and those that
-- it uses, whatever other entries have its names.
pub record IsLocatedAt (originals : List FileText) (stands : PlaceInSource) (cap : ℕ) (lines : List ℕ) : Type 0 where
  pub origin : Option Origin
  pub first : IsOriginAt stands.raws stands.place cap origin
  pub says : TellsOrigin originals stands cap origin lines

-- the lines that say where the value is; none for the entry of a compiled file
abbrev pub IsLocation : List FileText → Option PlaceInSource → ℕ → List ℕ → Type 0
IsLocation originals None cap lines = lines ≡ []
IsLocation originals (Some stands) cap lines = IsLocatedAt originals stands cap lines

-- ---- a fault at its place

-- a fault at its place: the words about the place, the name of the entry that has the fault, and the fault, with the
-- field below it
pub record PlacedText : Type 0 where
  pub place : List ℕ
  pub name : List ℕ
  pub fault : List ℕ

-- the place of the value that a fault is about, the name and the fault, as far as each can be shown; and the field
abbrev pub fault_at : List FileText → PutFiles → List RawEntry → List ℕ → No → Option Stretch → Origin → PlacedText
fault_at originals files raws name refusal part origin = record {
  place = shown (place_text originals files raws refusal.cap origin ++ codes ": ");
  name = shown name;
  fault = shown (codes " " ++ no_text refusal) ++ 10 ∷ excerpt_text originals files refusal.cap part origin;
}

-- the fault at an origin, in which a part of the value is at fault, or all of it; none for a capability without a value
abbrev pub ArePlacedAt : List FileText → PlaceInSource → List ℕ → No → Option Origin → List PlacedText → Type 0
ArePlacedAt originals stands name refusal None placed = placed ≡ []
ArePlacedAt originals stands name refusal (Some origin) placed =
    (part : Option Stretch) × IsFaulty (value_at stands.files refusal.cap origin) part
    × (placed ≡ fault_at originals stands.files stands.raws name refusal part origin ∷ [])

-- the value is that of the entry at its place, whatever other entries have its names
pub record IsPlacedIn (originals : List FileText) (stands : PlaceInSource) (name : List ℕ) (refusal : No)
    (placed : List PlacedText) : Type 0 where
  pub origin : Option Origin
  pub first : IsOriginAt stands.raws stands.place refusal.cap origin
  pub says : ArePlacedAt originals stands name refusal origin placed

-- a fault at its place; none in the entry of a compiled file
abbrev pub IsPlaced : List FileText → Option PlaceInSource → List ℕ → No → List PlacedText → Type 0
IsPlaced originals None name refusal placed = placed ≡ []
IsPlaced originals (Some stands) name refusal placed = IsPlacedIn originals stands name refusal placed

-- (Serves the code alone.) the place without its memory
abbrev pub place_in : SourcePlace → PlaceInSource
place_in stands = record {
  files = put_files stands.files;
  raws = stands.raws.now;
  place = stands.place;
}

abbrev pub place_if : Option SourcePlace → Option PlaceInSource
place_if None = None
place_if (Some stands) = Some (place_in stands)

abbrev pub placed_in : PlacedFault → PlacedText
placed_in placed = record { place = placed.place.items; name = placed.name.items; fault = placed.fault.items }

abbrev pub placed_if : Option PlacedFault → List PlacedText
placed_if None = []
placed_if (Some placed) = placed_in placed ∷ []
