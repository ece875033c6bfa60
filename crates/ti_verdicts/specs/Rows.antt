-- A field that may go over several lines of its text, and below it marks under a part of it.
use Rattle.std.specs.Prelude.{ℕ, ◌+◌, ◌-◌, ◌==◌, List, ◌++◌, if◌then◌else◌, length}
use Rattle.std.specs.List.{flat_map, range_with_len}
use Rattle.ti_sources.specs.Columns.{line_in, piece_of}
use Rattle.ti_sources.specs.declared.joined_places.Region.{Region}
use Rattle.ti_verdicts.specs.Excerpts.{deeper, underlined}
use Rattle.ti_source.specs.Layout.{lines_of, skip_white}
use Rattle.ti_files.specs.Shown.{shown}

-- the columns of a region on a line with a number: on its first line it begins with its first byte, on others behind
-- the white space, and it goes to the line's end, but on its last line to its last byte
abbrev pub first_column : List ℕ → Region → ℕ → ℕ
first_column line region number =
    if number == region.line then region.column else (length line - length (skip_white line)) + 1

abbrev pub end_column : List ℕ → Region → ℕ → ℕ
end_column line region number = if number == region.end_line then region.end_column else length line + 1

abbrev pub line_of_text : List ℕ → ℕ → List ℕ
line_of_text text number = line_in (lines_of text) number

-- the bytes of a region on the line of a text with a number
unfoldable pub row_of : List ℕ → Region → ℕ → List ℕ
row_of text region number = piece_of text number (record {
  start = first_column (line_of_text text number) region number;
  end = end_column (line_of_text text number) region number;
})

-- the bytes of a region that stand before a part of it, on the line on which this part begins
unfoldable pub front_of_row : List ℕ → Region → Region → List ℕ
front_of_row text region part = piece_of text part.line (record {
  start = first_column (line_of_text text part.line) region part.line;
  end = part.column;
})

-- the bytes of a region on as many of its lines, as far as they can be shown, each on a line of its own
unfoldable pub rows_of : List ℕ → Region → ℕ → List ℕ
rows_of text region count =
    flat_map (λ number. deeper (shown (row_of text region number))) (range_with_len region.line count)

-- the lines of a region up to the one on which a part of it begins, and below that the marks under this part, up to the
-- end of the line
unfoldable pub marked_rows : List ℕ → Region → Region → List ℕ
marked_rows text region part = rows_of text region (part.line - region.line)
    ++ underlined (shown (row_of text region part.line)) (shown (front_of_row text region part))
    (shown (row_of text part part.line))
