-- (Serves the code alone.) Fields added to those of an entry that count so far.
use Rattle.std.specs.Prelude.{ℕ, ◌+◌, ◌<◌, ◌≡◌, Bool, false, not, List, [], ◌∷◌, ◌++◌, Option, Some, None}
use Rattle.std.specs.Prelude.{if◌then◌else◌, slice_get, slice_index_or}
use Rattle.std.specs.List.{filter, list_any}
use Rattle.ti_source.specs.declared.lines.FieldLine.{FieldLine}
use Rattle.ti_source.specs.Fields.{is_cap}
use Rattle.ti_source.specs.Layout.{cut_of, lines_of}
use Rattle.ti_source.specs.Lines.{after_names, blocks_from, firsts, is_further, part_lines}

-- a field about this capability is among these
abbrev pub is_held : List FieldLine → Option ℕ → Bool
is_held fields None = false
is_held fields (Some cap) = list_any (λ field. is_cap cap field.cap) fields

-- one more field, if it counts
abbrev pub with_line : List FieldLine → FieldLine → List FieldLine
with_line fields field = if is_held fields field.cap then fields else fields ++ field ∷ []

abbrev pub with_part : List FieldLine → Option FieldLine → List FieldLine
with_part fields None = fields
with_part fields (Some field) = with_line fields field

-- the fields so far, and those of the others that count after them
unfoldable pub with_lines : List FieldLine → List FieldLine → List FieldLine
with_lines so_far fields = so_far ++ filter (λ field. not (is_held so_far field.cap)) (firsts fields)

-- the flags say which capabilities the fields are about
abbrev pub AreFlags : List FieldLine → List Bool → Type 0
AreFlags fields seen = (cap : ℕ) → cap < 497 → slice_index_or seen cap false ≡ is_held fields (Some cap)

-- the fields that a line adds to an entry that began before it
abbrev pub further_lines : ℕ → List ℕ → List FieldLine
further_lines number line = if is_further line then part_lines number (cut_of line).ended else []

-- all fields of the entry that begins on a line
abbrev pub fields_from : ℕ → List ℕ → List ℕ → List FieldLine
fields_from number line behind =
    part_lines number (after_names (cut_of line).ended) ++ (blocks_from (number + 1) (lines_of behind)).ahead

abbrev pub entry_block : List ℕ → ℕ → Option (List FieldLine)
entry_block text entry = slice_get (blocks_from 1 (lines_of text)).entries entry
