-- The places in a file of what was read from it, where lines of it may have been joined.
use Rattle.std.specs.Prelude.{ℕ, List, [], ◌∷◌, Option, Some, None, if◌then◌else◌, option_map}
use Rattle.std.specs.Str.{bytes_eq}
use Rattle.ti_sources.specs.declared.columns.Columns.{Columns}
use Rattle.ti_sources.specs.JoinedPlaces.{region_of}
use Rattle.ti_sources.specs.declared.joined_places.Region.{Region}
use Rattle.ti_sources.specs.LinedFiles.{FileText, Line, PutFiles, columns_among, line_among}
use Rattle.ti_resolve.specs.declared.origins.Origin.{Origin}
use Rattle.ti_source.specs.Layout.{lines_of}

-- the text of the file at a path before its lines were joined; none for a file that is read as it is
abbrev pub original_at : List FileText → List ℕ → Option (List ℕ)
original_at [] path = None
original_at (file ∷ others) path = if bytes_eq file.path path then Some file.text else original_at others path

-- The region in a file of the bytes between these columns of a line that was read. In a text before its lines were
-- joined it is that of the same bytes.
abbrev pub region_in : Option (List ℕ) → ℕ → Columns → Region
region_in None number columns = record {
  line = number;
  column = columns.start;
  end_line = number;
  end_column = columns.end;
}
region_in (Some text) number columns = region_of (lines_of text) number columns.start columns.end

unfoldable pub region_at : List FileText → Line → Columns → Region
region_at originals line columns = region_in (original_at originals line.path) line.number columns

-- the region of the field about a capability at an origin among the entries put together
unfoldable pub region_among : List FileText → PutFiles → ℕ → Origin → Option Region
region_among originals files cap origin =
    option_map (region_at originals (line_among files origin)) (columns_among files cap origin)

-- the line on which a field begins, which is the one that was read unless its region is known
abbrev pub begun_line : Line → Option Region → Line
begun_line line None = line
begun_line line (Some region) = record { path = line.path; number = region.line }
