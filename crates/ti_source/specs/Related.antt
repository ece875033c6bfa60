-- The relation between a terminfo(5) source text and its entries: a text is lines, a line is fields, a field is a
-- name with a value, and an entry begins in column one with its names.
use Rattle.std.specs.Prelude.{ℕ, ◌≡◌, ◌≢◌, ◌+◌, ◌≤◌, Bool, true, false, not, ◌&&◌, List, [], ◌∷◌, ◌++◌, length, Option}
use Rattle.std.specs.Prelude.{Some, None, Ok, Err, IsTrue, ◌==◌, is_some, option_to_list}
use Rattle.std.specs.List.{list_all}
use Rattle.ti_caps.specs.declared.fits.Opener.{Opener}
use Rattle.ti_caps.specs.declared.fits.Opener.TheVariants.{Nothing}
use Rattle.ti_caps.specs.Fits.{opener_after, is_one_field}
use Rattle.ti_caps.specs.Table.{place_in, kind_of}
use Rattle.ti_caps.specs.declared.types.Kind.TheVariants as kinds
use Rattle.ti_caps.specs.declared.value.Value.TheVariants as values
use Rattle.ti_source.specs.declared.layout.Mark.{Mark}
use Rattle.ti_source.specs.declared.layout.Mark.TheVariants.{Equals}
use Rattle.ti_source.specs.declared.parts.Reading.{Reading}
use Rattle.ti_source.specs.declared.parts.Reading.TheVariants.{Skipped, Unknown, Says}
use Rattle.ti_source.specs.declared.types.Field.TheVariants.{Set, Cancel, Include}
use Rattle.ti_source.specs.declared.types.RawEntry.{RawEntry}
use Rattle.ti_source.specs.declared.types.SourceFault.{SourceFault}
use Rattle.ti_source.specs.Escapes.{Decoding, decoding_of}
use Rattle.ti_source.specs.Fields.{is_use, is_no_name, new_entry, with_reading}
use Rattle.ti_source.specs.Layout.{is_white, trim_end, ends_field, mark_of}
use Rattle.ti_source.specs.Numbers.{number_of}
use Rattle.ti_source.specs.Source.{is_passed, begins_white, source_of}
use Rattle.ti_source.specs.Marks.{line_feed, carriage_return, hash, comma, period, equals, at_sign, use_mark}

-- no line feed is among the bytes
abbrev pub NoFeed : List ℕ → Type 0
NoFeed line = IsTrue (list_all (λ b. not (b == line_feed)) line)

abbrev pub ends_in_return : List ℕ → Bool
ends_in_return [] = false
ends_in_return (b ∷ []) = b == carriage_return
ends_in_return (b ∷ c ∷ line) = ends_in_return (c ∷ line)

-- The first line of a text, and the rest. The line ends with a line feed, with a carriage return and a line feed, or
-- with the text.
pub data FirstLine (line rest text : List ℕ) : Type 0 where
  Fed : text ≡ line ++ line_feed ∷ rest → NoFeed line → ends_in_return line ≡ false → FirstLine line rest text
  Returned : text ≡ line ++ carriage_return ∷ line_feed ∷ rest → NoFeed line → FirstLine line rest text
  Alone : text ≡ line → line ≢ [] → NoFeed line → rest ≡ [] → FirstLine line rest text

abbrev pub HasLines : List (List ℕ) → List ℕ → Type 0
HasLines [] text = text ≡ []
HasLines (line ∷ lines) text = (rest : List ℕ) × FirstLine line rest text × HasLines lines rest

-- only white space
abbrev pub White : List ℕ → Type 0
White bytes = IsTrue (list_all is_white bytes)

-- no comma among the bytes ends a field
abbrev pub is_unended : Opener → List ℕ → Bool
is_unended opener [] = true
is_unended opener (b ∷ rest) = not (ends_field opener b) && is_unended (opener_after opener b) rest

-- the fields of a line, each with a comma after it, and the text after the last comma
abbrev pub HasFields : List (List ℕ) → List ℕ → List ℕ → Type 0
HasFields [] last line = (line ≡ last) × IsTrue (is_unended Nothing last)
HasFields (field ∷ fields) last line =
    (rest : List ℕ) × (line ≡ field ++ comma ∷ rest) × IsTrue (is_one_field Nothing field) × HasFields fields last rest

-- none of the marks @ # = is among the bytes
abbrev pub NoMark : List ℕ → Type 0
NoMark name = IsTrue (list_all (λ b. not (is_some (mark_of b))) name)

-- The meaning of a field: a flag, name#number, name=string, name@ or use=name, or one whose name isn't that of a
-- capability. The first mark ends the name.
pub data Means (field : List ℕ) (reading : Reading) : Type 0 where
  IsFlag : (cap : ℕ) → NoMark field → place_in (trim_end field) ≡ Some cap → kind_of cap ≡ kinds.Flag
      → reading ≡ Says (Set cap values.Flag) 0 → Means field reading
  IsNumber : (name value : List ℕ) (cap n : ℕ) → field ≡ name ++ hash ∷ value → NoMark name → place_in name ≡ Some cap
      → kind_of cap ≡ kinds.Number → number_of value ≡ Ok n → reading ≡ Says (Set cap (values.Number n)) 0
      → Means field reading
  IsString : (name value : List ℕ) (cap : ℕ) (d : Decoding) → field ≡ name ++ equals ∷ value → NoMark name
      → is_use name ≡ false → place_in name ≡ Some cap → kind_of cap ≡ kinds.String → decoding_of value ≡ Some d
      → length d.bytes ≤ 4095 → reading ≡ Says (Set cap (values.String d.bytes)) d.odd → Means field reading
  Cancels : (name behind : List ℕ) (cap : ℕ) → field ≡ name ++ at_sign ∷ behind → NoMark name → place_in name ≡ Some cap
      → reading ≡ Says (Cancel cap) 0 → Means field reading
  Uses : (name : List ℕ) → field ≡ use_mark ++ name → reading ≡ Says (Include name) 0 → Means field reading
  UnknownAlone : NoMark field → place_in (trim_end field) ≡ None → reading ≡ Unknown → Means field reading
  UnknownMarked : (name value : List ℕ) (b : ℕ) (mark : Mark) → field ≡ name ++ b ∷ value → NoMark name
      → mark_of b ≡ Some mark → (mark ≡ Equals → is_use name ≡ false) → place_in name ≡ None → reading ≡ Unknown
      → Means field reading

-- a field begins with neither white space nor a period
abbrev pub begins_field : List ℕ → Bool
begins_field [] = false
begins_field (b ∷ rest) = not (is_white b) && not (b == period)

-- The meaning of the text before a comma: nothing if it is white space or, after white space, begins with a period;
-- otherwise that of the field after the white space.
pub data PartSays (part : List ℕ) (reading : Reading) : Type 0 where
  Blank : White part → reading ≡ Skipped → PartSays part reading
  Commented : (white rest : List ℕ) → White white → part ≡ white ++ period ∷ rest → reading ≡ Skipped
      → PartSays part reading
  Said : (white field : List ℕ) → White white → part ≡ white ++ field → begins_field field ≡ true → Means field reading
      → PartSays part reading

-- an entry with the fields of a line added, one after another
abbrev pub Grows : ℕ → RawEntry → List (List ℕ) → RawEntry → Type 0
Grows number raw [] grown = grown ≡ raw
Grows number raw (part ∷ parts) grown =
    (reading : Reading) × PartSays part reading × Grows number (with_reading number raw reading) parts grown

-- a line that continues an entry: only white space follows its last comma
pub record FurtherLine (number : ℕ) (raw : RawEntry) (line : List ℕ) (grown : RawEntry) : Type 0 where
  pub fields : List (List ℕ)
  pub last : List ℕ
  pub has : HasFields fields last line
  pub blank : White last
  pub grows : Grows number raw fields grown

-- the line on which an entry begins; its first field is the names
pub record EntryLine (number : ℕ) (line : List ℕ) (entry : RawEntry) : Type 0 where
  pub names : List ℕ
  pub fields : List (List ℕ)
  pub last : List ℕ
  pub has : HasFields (names ∷ fields) last line
  pub blank : White last
  pub named : is_no_name names ≡ false
  pub short : length names ≤ 4095
  pub grows : Grows number (new_entry number names) fields entry

-- A line after an open entry, and the entries of the lines after it. Comments and lines of white space are ignored, a
-- line that begins with white space continues the entry, and any other begins one.
pub data LineStands (number : ℕ) (open_entry : Option RawEntry) (line : List ℕ) (entries : List RawEntry)
    (Behind : Option RawEntry → List RawEntry → Type 0) : Type 0 where
  Passed : is_passed line ≡ true → Behind open_entry entries → LineStands number open_entry line entries Behind
  Further : (raw grown : RawEntry) → is_passed line ≡ false → begins_white line ≡ true → open_entry ≡ Some raw
      → FurtherLine number raw line grown → Behind (Some grown) entries
      → LineStands number open_entry line entries Behind
  Begins : (entry : RawEntry) (others : List RawEntry) → is_passed line ≡ false → begins_white line ≡ false
      → EntryLine number line entry → entries ≡ option_to_list open_entry ++ others → Behind (Some entry) others
      → LineStands number open_entry line entries Behind

-- the lines from this number on, after an open entry, have these entries
abbrev pub Stand : ℕ → List (List ℕ) → Option RawEntry → List RawEntry → Type 0
Stand number [] open_entry entries = entries ≡ option_to_list open_entry
Stand number (line ∷ lines) open_entry entries = LineStands number open_entry line entries (Stand (number + 1) lines)

-- a text of at most 16777216 bytes, and its entries
pub record IsSource (text : List ℕ) (entries : List RawEntry) : Type 0 where
  pub short : length text ≤ 16777216
  pub lines : List (List ℕ)
  pub has : HasLines lines text
  pub stand : Stand 1 lines None entries

-- entries that are read are related to the text
abbrev pub ReadIsRelated : Type 0
ReadIsRelated = (text : List ℕ) (entries : List RawEntry) → source_of text ≡ Ok entries → IsSource text entries

-- entries related to the text are read
abbrev pub RelatedIsRead : Type 0
RelatedIsRead = (text : List ℕ) (entries : List RawEntry) → IsSource text entries → source_of text ≡ Ok entries

-- if there is a fault, no entries are related to the text
abbrev pub FaultHasNone : Type 0
FaultHasNone =
    (text : List ℕ) (fault : SourceFault) → source_of text ≡ Err fault → (entries : List RawEntry)
    → IsSource text entries → ⊥

-- the first line, counted from 1, up to which the lines have no entries, though those before it do
pub record FirstFault (lines : List (List ℕ)) (fault : SourceFault) : Type 0 where
  pub before : List (List ℕ)
  pub line : List ℕ
  pub behind : List (List ℕ)
  pub is : lines ≡ before ++ line ∷ behind
  pub at : fault.line ≡ length before + 1
  pub entries : List RawEntry
  pub fine : Stand 1 before None entries
  pub stuck : (others : List RawEntry) → Stand 1 (before ++ line ∷ []) None others → ⊥

-- the fault is reported for that line
abbrev pub FaultIsFirst : Type 0
FaultIsFirst =
    (text : List ℕ) (fault : SourceFault) (lines : List (List ℕ)) → length text ≤ 16777216 → HasLines lines text
    → source_of text ≡ Err fault → FirstFault lines fault
