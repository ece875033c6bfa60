-- The lines of a source text that have the fields of its entries.
use Rattle.std.specs.Prelude.{ℕ, ◌+◌, List, Option, Some, None, map, slice_get}
use Rattle.ti_source.specs.declared.lines.FieldLine.{FieldLine}
use Rattle.ti_source.specs.Layout.{lines_of}
use Rattle.ti_source.specs.Lines.{blocks_from, firsts}

-- the number of a line, if there is one
abbrev pub number_of : Option FieldLine → ℕ
number_of None = 0
number_of (Some field) = field.line

-- the line of the field at a place among these
abbrev pub line_at : List FieldLine → ℕ → ℕ
line_at fields place = number_of (slice_get fields place)

-- ---- for private clauses: the lines as the code keeps them

-- a number, or 0
abbrev pub or_zero : Option ℕ → ℕ
or_zero None = 0
or_zero (Some number) = number

-- the lines of those fields of an entry that count
abbrev pub numbered : List FieldLine → List ℕ
numbered fields = map (λ field. field.line) (firsts fields)

-- the lines of the fields of each entry
abbrev pub numbers_of : List ℕ → List (List ℕ)
numbers_of text = map numbered (blocks_from 1 (lines_of text)).entries

-- the line of a field, if this number of lines comes before those that were counted
abbrev pub line_behind : ℕ → FieldLine → ℕ
line_behind before field = before + field.line
