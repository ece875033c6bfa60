-- The meaning of a field of terminfo(5) source, and the entry after the field.
use Rattle.std.specs.Prelude.{ℕ, Bool, true, false, ◌&&◌, ◌||◌, List, [], ◌∷◌, ◌++◌, length, replicate, Option, Some}
use Rattle.std.specs.Prelude.{None, Result, Ok, Err, if◌then◌else◌, ◌==◌, nat_lt}
use Rattle.std.specs.List.{list_any, list_all}
use Rattle.ti_caps.specs.declared.types.Kind.TheVariants as kinds
use Rattle.ti_caps.specs.declared.value.Value.TheVariants as values
use Rattle.ti_caps.specs.Table.{place_in, kind_of, is_kind}
use Rattle.ti_source.specs.declared.types.FaultKind.{FaultKind}
use Rattle.ti_source.specs.declared.types.FaultKind.TheVariants as faults
use Rattle.ti_source.specs.declared.types.Field.{Field}
use Rattle.ti_source.specs.declared.types.Field.TheVariants.{Set, Cancel, Include}
use Rattle.ti_source.specs.declared.types.Note.{Note}
use Rattle.ti_source.specs.declared.types.NoteKind.{NoteKind}
use Rattle.ti_source.specs.declared.types.NoteKind.TheVariants.{UnknownName, Duplicate, OddEscape}
use Rattle.ti_source.specs.declared.types.RawEntry.{RawEntry}
use Rattle.ti_source.specs.declared.parts.Reading.{Reading}
use Rattle.ti_source.specs.declared.parts.Reading.TheVariants.{Skipped, Unknown, Says}
use Rattle.ti_source.specs.declared.layout.Mark.{Mark}
use Rattle.ti_source.specs.declared.layout.Mark.TheVariants.{At, Hash, Equals}
use Rattle.ti_source.specs.Escapes.{Decoding, decoding_of}
use Rattle.ti_source.specs.Layout.{is_white, skip_white, trim_end, Marked, marked_in, Cut, cut_of}
use Rattle.ti_source.specs.Numbers.{number_of}
use Rattle.ti_source.specs.Marks.{space, period, bar}

infixl 10 ◌>>=◌
abbrev pub ◌>>=◌ : {A B : Type 0} → Result A FaultKind → (A → Result B FaultKind) → Result B FaultKind
(Ok x) >>= f = f x
(Err e) >>= f = Err e

-- whether a name is that of an inclusion, use=name
abbrev pub is_use : List ℕ → Bool
is_use [] = false
is_use (a ∷ []) = false
is_use (a ∷ b ∷ []) = false
is_use (a ∷ b ∷ c ∷ []) = (a == 117) && ((b == 115) && (c == 101))
is_use (a ∷ b ∷ c ∷ d ∷ rest) = false

-- a field that is just a name
abbrev pub flag_reading : Option ℕ → Result Reading FaultKind
flag_reading None = Ok Unknown
flag_reading (Some cap) =
    if is_kind (kind_of cap) kinds.Flag then Ok (Says (Set cap values.Flag) 0) else Err faults.WrongKind

unfoldable pub number_reading : ℕ → List ℕ → Result Reading FaultKind
number_reading cap value =
    if is_kind (kind_of cap) kinds.Number then (number_of value >>= λ n. Ok (Says (Set cap (values.Number n)) 0))
    else Err faults.WrongKind

abbrev pub decoded_reading : ℕ → Option Decoding → Result Reading FaultKind
decoded_reading cap None = Err faults.BadEscape
decoded_reading cap (Some d) = Ok (Says (Set cap (values.String d.bytes)) d.odd)

unfoldable pub string_reading : ℕ → List ℕ → Result Reading FaultKind
string_reading cap value =
    if is_kind (kind_of cap) kinds.String then decoded_reading cap (decoding_of value) else Err faults.WrongKind

-- a field with a mark and a known name; the text after an @ isn't read
abbrev pub known_reading : ℕ → Mark → List ℕ → Result Reading FaultKind
known_reading cap At value = Ok (Says (Cancel cap) 0)
known_reading cap Hash value = number_reading cap value
known_reading cap Equals value = string_reading cap value

abbrev pub named_reading : Option ℕ → Mark → List ℕ → Result Reading FaultKind
named_reading None mark value = Ok Unknown
named_reading (Some cap) mark value = known_reading cap mark value

-- only = makes an inclusion: use@ and use#1 are unknown names
abbrev pub marked_reading : Mark → List ℕ → List ℕ → Result Reading FaultKind
marked_reading At name value = named_reading (place_in name) At value
marked_reading Hash name value = named_reading (place_in name) Hash value
marked_reading Equals name value =
    if is_use name then Ok (Says (Include value) 0) else named_reading (place_in name) Equals value

abbrev pub split_reading : List ℕ → Option Marked → Result Reading FaultKind
split_reading field None = flag_reading (place_in (trim_end field))
split_reading field (Some m) = marked_reading m.mark m.name m.value

-- nothing, or a field commented out by a period
abbrev pub is_skipped : List ℕ → Bool
is_skipped [] = true
is_skipped (b ∷ rest) = b == period

abbrev pub trimmed_reading : List ℕ → Result Reading FaultKind
trimmed_reading field = if is_skipped field then Ok Skipped else split_reading field (marked_in field)

-- the meaning of the text between two commas; its faults come before that of a missing comma
unfoldable pub reading_of : List ℕ → Result Reading FaultKind
reading_of part = trimmed_reading (skip_white part)

-- a string of more than 4095 bytes; only a field that a comma ends has this fault
abbrev pub is_long : Reading → Bool
is_long (Says (Set cap (values.String bytes)) odd) = nat_lt 4095 (length bytes)
is_long _ = false

abbrev pub bounded_reading : Reading → Result Reading FaultKind
bounded_reading reading = if is_long reading then Err faults.TooLong else Ok reading

-- the meaning of the text before a comma
unfoldable pub ended_reading : List ℕ → Result Reading FaultKind
ended_reading part = reading_of part >>= bounded_reading

-- the capability that a field is about
abbrev pub cap_of : Field → Option ℕ
cap_of (Set cap value) = Some cap
cap_of (Cancel cap) = Some cap
cap_of (Include name) = None

abbrev pub is_cap : ℕ → Option ℕ → Bool
is_cap cap None = false
is_cap cap (Some other) = other == cap

-- some field is about the capability
unfoldable pub is_told : List Field → ℕ → Bool
is_told fields cap = list_any (λ field. is_cap cap (cap_of field)) fields

-- whether the entry has a field about this capability already; inclusions may repeat
abbrev pub repeats : List Field → Option ℕ → Bool
repeats fields None = false
repeats fields (Some cap) = is_told fields cap

abbrev pub note : ℕ → NoteKind → Note
note line kind = record { line = line; kind = kind }

abbrev pub with_notes : RawEntry → List Note → RawEntry
with_notes raw more = record { line = raw.line; names = raw.names; fields = raw.fields; notes = raw.notes ++ more }

abbrev pub with_field : RawEntry → Field → RawEntry
with_field raw field =
    record { line = raw.line; names = raw.names; fields = raw.fields ++ field ∷ []; notes = raw.notes }

-- the first field with a name counts
abbrev pub with_said : Bool → ℕ → RawEntry → Field → RawEntry
with_said true line raw field = with_notes raw (note line Duplicate ∷ [])
with_said false line raw field = with_field raw field

-- an entry after one more field
unfoldable pub with_reading : ℕ → RawEntry → Reading → RawEntry
with_reading line raw Skipped = raw
with_reading line raw Unknown = with_notes raw (note line UnknownName ∷ [])
with_reading line raw (Says field odd) =
    with_notes (with_said (repeats raw.fields (cap_of field)) line raw field) (replicate odd (note line OddEscape))

unfoldable pub add_field : ℕ → RawEntry → List ℕ → Result RawEntry FaultKind
add_field line raw part =
    ended_reading part >>= λ reading. Ok (with_reading line raw reading)

-- the text after the last comma must be white space
unfoldable pub add_last : RawEntry → List ℕ → Result RawEntry FaultKind
add_last raw part = if list_all is_white part then Ok raw else (reading_of part >>= λ reading. Err faults.OpenField)

abbrev pub add_fields : ℕ → RawEntry → List (List ℕ) → Result RawEntry FaultKind
add_fields line raw [] = Ok raw
add_fields line raw (part ∷ parts) = add_field line raw part >>= λ next. add_fields line next parts

-- the fields of a line, or those after the names
unfoldable pub add_cut : ℕ → RawEntry → Cut → Result RawEntry FaultKind
add_cut line raw cut = add_fields line raw cut.ended >>= λ next. add_last next cut.last

-- the first name is empty
abbrev pub begins_unnamed : List ℕ → Bool
begins_unnamed [] = true
begins_unnamed (b ∷ rest) = b == bar

-- not the names of an entry, which begin in the first column
unfoldable pub is_no_name : List ℕ → Bool
is_no_name names = begins_unnamed names || list_any (λ b. nat_lt b space) names

abbrev pub new_entry : ℕ → List ℕ → RawEntry
new_entry line names = record { line = line; names = names; fields = []; notes = [] }

-- the entry with a names field that a comma ends
unfoldable pub named_entry : ℕ → List ℕ → Result RawEntry FaultKind
named_entry line names =
    if is_no_name names then Err faults.NoName
    else (if nat_lt 4095 (length names) then Err faults.TooLong else Ok (new_entry line names))

-- the fault of a names field without a comma
abbrev pub open_names : List ℕ → Result RawEntry FaultKind
open_names names = if is_no_name names then Err faults.NoName else Err faults.OpenField

abbrev pub begun_by : ℕ → List (List ℕ) → List ℕ → Result RawEntry FaultKind
begun_by line [] last = open_names last
begun_by line (names ∷ parts) last =
    named_entry line names >>= λ raw. add_cut line raw (record { ended = parts; last = last })

-- the entry that begins on a line
unfoldable pub entry_on : ℕ → List ℕ → Result RawEntry FaultKind
entry_on line text = begun_by line (cut_of text).ended (cut_of text).last
