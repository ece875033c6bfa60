-- The lines of the fields of the entries of a terminfo(5) source text. Values aren't read, so every text has field
-- lines.
use Rattle.std.specs.Prelude.{ℕ, ◌+◌, ◌≡◌, Bool, false, not, ◌&&◌, List, [], ◌∷◌, ◌++◌, map, Option, Some, None, Ok}
use Rattle.std.specs.Prelude.{if◌then◌else◌, slice_get, slice_index_or}
use Rattle.std.specs.List.{filter, filter_map}
use Rattle.ti_caps.specs.Table.{place_in}
use Rattle.ti_source.specs.declared.layout.Mark.{Mark}
use Rattle.ti_source.specs.declared.layout.Mark.TheVariants.{At, Hash, Equals}
use Rattle.ti_source.specs.declared.lines.FieldLine.{FieldLine}
use Rattle.ti_source.specs.declared.types.RawEntry.{RawEntry}
use Rattle.ti_source.specs.Fields.{cap_of, is_cap, is_skipped, is_use}
use Rattle.ti_source.specs.Layout.{Marked, cut_of, lines_of, marked_in, skip_white, trim_end}
use Rattle.ti_source.specs.Source.{begins_white, is_passed, source_of}

abbrev pub field_line : ℕ → Option ℕ → FieldLine
field_line line cap = record { line = line; cap = cap }

-- a field with this name, if a capability has the name
abbrev pub named_line : ℕ → Option ℕ → Option FieldLine
named_line line None = None
named_line line (Some cap) = Some (field_line line (Some cap))

abbrev pub marked_line : ℕ → Mark → List ℕ → Option FieldLine
marked_line line At name = named_line line (place_in name)
marked_line line Hash name = named_line line (place_in name)
marked_line line Equals name = if is_use name then Some (field_line line None) else named_line line (place_in name)

abbrev pub split_line : ℕ → List ℕ → Option Marked → Option FieldLine
split_line line field None = named_line line (place_in (trim_end field))
split_line line field (Some m) = marked_line line m.mark m.name

abbrev pub trimmed_line : ℕ → List ℕ → Option FieldLine
trimmed_line line field = if is_skipped field then None else split_line line field (marked_in field)

-- the field before a comma, if its name is known
unfoldable pub part_line : ℕ → List ℕ → Option FieldLine
part_line line part = trimmed_line line (skip_white part)

abbrev pub part_lines : ℕ → List (List ℕ) → List FieldLine
part_lines line parts = filter_map (part_line line) parts

-- the first field of an entry is its names
abbrev pub after_names : List (List ℕ) → List (List ℕ)
after_names [] = []
after_names (names ∷ parts) = parts

-- The fields on some lines: those of an entry that began before them, and those of each entry that begins on them.
pub record Blocks : Type 0 where
  pub ahead : List FieldLine
  pub entries : List (List FieldLine)

abbrev pub no_blocks : Blocks
no_blocks = record { ahead = []; entries = [] }

-- a line that continues an entry
abbrev pub onto_blocks : List FieldLine → Blocks → Blocks
onto_blocks fields behind = record { ahead = fields ++ behind.ahead; entries = behind.entries }

-- the first line of an entry
abbrev pub begin_block : List FieldLine → Blocks → Blocks
begin_block fields behind = record { ahead = []; entries = (fields ++ behind.ahead) ∷ behind.entries }

-- a line that is neither ignored nor continues an entry
abbrev pub begins_entry : List ℕ → Bool
begins_entry line = not (is_passed line) && not (begins_white line)

abbrev pub is_further : List ℕ → Bool
is_further line = not (is_passed line) && begins_white line

unfoldable pub line_blocks : ℕ → List ℕ → Blocks → Blocks
line_blocks number line behind =
    if begins_entry line then begin_block (part_lines number (after_names (cut_of line).ended)) behind
    else (if is_further line then onto_blocks (part_lines number (cut_of line).ended) behind else behind)

-- the lines from this number on
abbrev pub blocks_from : ℕ → List (List ℕ) → Blocks
blocks_from number [] = no_blocks
blocks_from number (line ∷ lines) = line_blocks number line (blocks_from (number + 1) lines)

-- both are about one capability; an inclusion is about none
abbrev pub is_same : Option ℕ → Option ℕ → Bool
is_same None other = false
is_same (Some cap) other = is_cap cap other

-- the first of the fields about each capability, and every inclusion
abbrev pub firsts : List FieldLine → List FieldLine
firsts [] = []
firsts (field ∷ fields) = field ∷ filter (λ other. not (is_same field.cap other.cap)) (firsts fields)

-- the fields that count of each entry of a text
unfoldable pub lined_of : List ℕ → List (List FieldLine)
lined_of text = map firsts (blocks_from 1 (lines_of text)).entries

-- the fields that count of the entry with this number, counted from 0
unfoldable pub field_lines_of : List ℕ → ℕ → List FieldLine
field_lines_of text entry = slice_index_or (lined_of text) entry []

abbrev pub caps_of_lines : List FieldLine → List (Option ℕ)
caps_of_lines fields = map (λ field. field.cap) fields

abbrev pub caps_of_raw : RawEntry → List (Option ℕ)
caps_of_raw raw = map cap_of raw.fields

-- the field lines are those of the fields that reading returns, one for one
abbrev pub LinesAreOfFields : Type 0
LinesAreOfFields =
    (text : List ℕ) (raws : List RawEntry) (entry : ℕ) (raw : RawEntry) → source_of text ≡ Ok raws
    → slice_get raws entry ≡ Some raw → caps_of_lines (field_lines_of text entry) ≡ caps_of_raw raw
