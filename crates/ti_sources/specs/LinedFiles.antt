-- The files of entries that were put together, and the line and the columns of a field in its file.
use Rattle.std.specs.Prelude.{ℕ, List, [], ◌∷◌, Option, Some, None, map, slice_get}
use Rattle.std.specs.String.{string_bytes}
use Rattle.ti_sources.specs.Columns.{columns_of, piece_of}
use Rattle.ti_sources.specs.LinedTexts.{line_at}
use Rattle.ti_sources.specs.declared.columns.Columns.{Columns}
use Rattle.ti_sources.specs.Files.{text_in}
use Rattle.ti_sources.specs.Spots.{spot_of}
use Rattle.ti_sources.specs.declared.files.FurtherFile.{FurtherFile}
use Rattle.ti_sources.specs.declared.spots.Spot.{Spot}
use Rattle.ti_resolve.specs.declared.origins.Origin.{Origin}
use Rattle.ti_source.specs.Lines.{field_lines_of}
use Rattle.ti_sources.specs.declared.file_lines.FieldPlace.{FieldPlace}
use Rattle.ti_sources.specs.declared.file_lines.LinedFile.{LinedFile}
use Rattle.ti_sources.specs.declared.file_lines.LinedFiles.{LinedFiles}

-- the line of the text that has a field; 0 if it has no such field
unfoldable pub line_of_field : List ℕ → Origin → ℕ
line_of_field text origin = line_at (field_lines_of text origin.entry) origin.field

-- a file: its path, and the text that has the lines of its entries; that of a compiled one is empty
pub record FileText : Type 0 where
  pub path : List ℕ
  pub text : List ℕ

abbrev pub text_at : List ℕ → List ℕ → FileText
text_at path text = record { path = path; text = text }

-- the files whose entries were put together, and how many entries each has
pub record PutFiles : Type 0 where
  pub texts : List FileText
  pub counts : List ℕ

-- the path of a file, and the number of one of its lines; 0 if no line has what is sought
pub record Line : Type 0 where
  pub path : List ℕ
  pub number : ℕ

-- the line of the field at an origin in a file by itself
abbrev pub line_in : Option FileText → Origin → Line
line_in None origin = record { path = []; number = 0 }
line_in (Some file) origin = record { path = file.path; number = line_of_field file.text origin }

abbrev pub origin_of : ℕ → ℕ → Origin
origin_of entry field = record { entry = entry; field = field }

abbrev pub line_at_spot : List FileText → ℕ → Option Spot → Line
line_at_spot texts field None = line_in None (origin_of 0 field)
line_at_spot texts field (Some spot) = line_in (slice_get texts spot.file) (origin_of spot.place field)

-- the line of the field at an origin among the entries put together: that of the file that has the entry
unfoldable pub line_among : PutFiles → Origin → Line
line_among files origin = line_at_spot files.texts origin.field (spot_of files.counts origin.entry)

-- the columns of the first field about a capability on the line of an origin, in a file by itself
abbrev pub columns_in : Option FileText → ℕ → Origin → Option Columns
columns_in None cap origin = None
columns_in (Some file) cap origin = columns_of file.text (line_of_field file.text origin) cap

abbrev pub columns_at_spot : List FileText → ℕ → ℕ → Option Spot → Option Columns
columns_at_spot texts cap field None = None
columns_at_spot texts cap field (Some spot) = columns_in (slice_get texts spot.file) cap (origin_of spot.place field)

-- the columns of the field about a capability at an origin among the entries put together, in the file that has it
unfoldable pub columns_among : PutFiles → ℕ → Origin → Option Columns
columns_among files cap origin = columns_at_spot files.texts cap origin.field (spot_of files.counts origin.entry)

-- the bytes between columns of the line of an origin, in a file by itself
abbrev pub piece_in : Option FileText → Columns → Origin → List ℕ
piece_in None columns origin = []
piece_in (Some file) columns origin = piece_of file.text (line_of_field file.text origin) columns

abbrev pub piece_at_spot : List FileText → Columns → ℕ → Option Spot → List ℕ
piece_at_spot texts columns field None = []
piece_at_spot texts columns field (Some spot) =
    piece_in (slice_get texts spot.file) columns (origin_of spot.place field)

-- the bytes between columns of the line of an origin among the entries put together, in the file that has it
unfoldable pub piece_among : PutFiles → Columns → Origin → List ℕ
piece_among files columns origin = piece_at_spot files.texts columns origin.field (spot_of files.counts origin.entry)

-- ---- the files of a source

abbrev pub further_text : FurtherFile → FileText
further_text file = record { path = string_bytes file.path; text = text_in file.bytes.items }

-- the source first, and then the files of `--with`
abbrev pub texts_of_files : List ℕ → List ℕ → List FurtherFile → List FileText
texts_of_files path text further = text_at path text ∷ map further_text further

-- ---- files with the lines of all fields, without their memory

abbrev pub file_text : LinedFile → FileText
file_text file = record { path = file.path.now; text = file.lined }

abbrev pub put_files : LinedFiles → PutFiles
put_files lined = record { texts = map file_text lined.files.now; counts = lined.counts.now }

abbrev pub line_of : FieldPlace → Line
line_of place = record { path = place.path.now; number = place.line }
