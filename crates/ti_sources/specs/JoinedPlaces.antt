-- Which byte of a text a byte of the joined text is.
use Rattle.std.specs.Prelude.{◌≡◌, ◌≤◌, ◌+◌, ◌-◌, ℕ, List, [], ◌∷◌, Option, Some, None, drop, if◌then◌else◌, length}
use Rattle.std.specs.Prelude.{nat_lt, slice_get}
use Rattle.ti_sources.specs.Joins.{joined_lines}
use Rattle.ti_sources.specs.declared.joined_places.Place.{Place}
use Rattle.ti_sources.specs.declared.joined_places.Region.{Region}
use Rattle.ti_source.specs.Layout.{skip_white}

-- the place of the byte with this many others before it, behind a line: on the first of the further lines, which has a
-- number and was taken up without its leading white space, or on those behind that
abbrev pub place_behind : ℕ → ℕ → List (List ℕ) → Place
place_behind number past [] = record { line = number; column = past + 1 }
place_behind number past (next ∷ behind) =
    if nat_lt past (length (skip_white next))
    then record { line = number; column = (length next - length (skip_white next)) + past + 1 }
    else place_behind (number + 1) (past - length (skip_white next)) behind

-- the place of the byte with this many others before it on a joined line, whose first bytes are a line with a number
abbrev pub place_from : ℕ → ℕ → List (List ℕ) → Place
place_from number at [] = record { line = number; column = at + 1 }
place_from number at (line ∷ behind) =
    if nat_lt at (length line) then record { line = number; column = at + 1 }
    else place_behind (number + 1) (at - length line) behind

-- the place in a text of the byte at a column of one of its joined lines, both counted from 1: a joined line begins
-- with the line that has its number
unfoldable pub place_of : List (List ℕ) → Place → Place
place_of lines place = place_from place.line (place.column - 1) (drop (place.line - 1) lines)

-- ---- a region

abbrev pub at : ℕ → ℕ → Place
at line column = record { line = line; column = column }

abbrev pub behind : Place → Place
behind place = record { line = place.line; column = place.column + 1 }

-- the place in a text behind the last of the bytes of a joined line from one column up to another; that of the first
-- column, if there are none
unfoldable pub end_of : List (List ℕ) → ℕ → ℕ → ℕ → Place
end_of lines number start end =
    if nat_lt start end then behind (place_of lines (at number (end - 1))) else place_of lines (at number start)

-- from a place up to another
abbrev pub up_to : Place → Place → Region
up_to first end = record {
  line = first.line;
  column = first.column;
  end_line = end.line;
  end_column = end.column;
}

-- the region in a text of the bytes of a joined line from one column up to another
unfoldable pub region_of : List (List ℕ) → ℕ → ℕ → ℕ → Region
region_of lines number start end = up_to (place_of lines (at number start)) (end_of lines number start end)

-- ---- the law

abbrev pub or_none : Option (List ℕ) → List ℕ
or_none None = []
or_none (Some line) = line

-- the byte at a place, if there is one
abbrev pub byte_at : List (List ℕ) → Place → Option ℕ
byte_at lines place = slice_get (or_none (slice_get lines (place.line - 1))) (place.column - 1)

-- each byte of the joined lines is the byte of the text that is at its place there
abbrev pub BytesAreKept : Type 0
BytesAreKept = (lines : List (List ℕ)) (place : Place) (byte : ℕ) → 1 ≤ place.line
    → byte_at (joined_lines lines) place ≡ Some byte → byte_at lines (place_of lines place) ≡ Some byte
