-- The columns of a field in its line.
use Rattle.std.specs.Prelude.{ℕ, zero, suc, ◌+◌, ◌-◌, Bool, true, ◌&&◌, ◌||◌, ◌==◌, List, [], ◌∷◌, Option, Some, None}
use Rattle.std.specs.Prelude.{if◌then◌else◌, drop, length, slice_get, take}
use Rattle.std.specs.List.{list_all}
use Rattle.std.specs.Str.{bytes_eq}
use Rattle.ti_caps.specs.Table.{name_at}
use Rattle.ti_sources.specs.declared.columns.Columns.{Columns}
use Rattle.ti_source.specs.Layout.{cut_of, is_white, lines_of, skip_white}
use Rattle.ti_source.specs.Lines.{begins_entry}
use Rattle.ti_source.specs.Marks.{at_sign, equals, hash}

-- what may follow the name of a field: a mark and a value, or white space alone
abbrev pub is_mark : ℕ → Bool
is_mark b = (b == at_sign) || ((b == hash) || (b == equals))

abbrev pub ends_name : List ℕ → Bool
ends_name [] = true
ends_name (b ∷ rest) = is_mark b || list_all is_white (b ∷ rest)

-- the field has this name
unfoldable pub is_named : List ℕ → List ℕ → Bool
is_named name field = bytes_eq (take (length name) field) name && ends_name (drop (length name) field)

-- the columns of what a comma ends, without the white space before it, where the line has a number of bytes before it
abbrev pub columns_of_part : ℕ → List ℕ → Columns
columns_of_part before part = record {
  start = before + (length part - length (skip_white part)) + 1;
  end = before + length part + 1;
}

-- the first of these fields about a capability, with a comma behind each
abbrev pub first_columns : ℕ → ℕ → List (List ℕ) → Option Columns
first_columns cap before [] = None
first_columns cap before (part ∷ parts) =
    if is_named (name_at cap) (skip_white part) then Some (columns_of_part before part)
    else first_columns cap (before + length part + 1) parts

-- the first line of an entry has its names before the fields
abbrev pub behind_names : ℕ → List (List ℕ) → Option Columns
behind_names cap [] = None
behind_names cap (names ∷ parts) = first_columns cap (length names + 1) parts

-- the first field on a line about a capability
unfoldable pub columns_on : List ℕ → ℕ → Option Columns
columns_on line cap =
    if begins_entry line then behind_names cap (cut_of line).ended else first_columns cap 0 (cut_of line).ended

-- a line, or an empty one
abbrev pub or_empty : Option (List ℕ) → List ℕ
or_empty None = []
or_empty (Some line) = line

-- the line with a number, counted from 1
abbrev pub line_in : List (List ℕ) → ℕ → List ℕ
line_in lines zero = []
line_in lines (suc place) = or_empty (slice_get lines place)

-- the first field about a capability on the line of a text with a number
unfoldable pub columns_of : List ℕ → ℕ → ℕ → Option Columns
columns_of text number cap = columns_on (line_in (lines_of text) number) cap

-- ---- the bytes of a field

-- the bytes of a line from one column up to another, as far as the line has them
unfoldable pub piece_on : List ℕ → Columns → List ℕ
piece_on line columns = take (columns.end - columns.start) (drop (columns.start - 1) line)

-- the bytes between these columns on the line of a text with a number
unfoldable pub piece_of : List ℕ → ℕ → Columns → List ℕ
piece_of text number columns = piece_on (line_in (lines_of text) number) columns
