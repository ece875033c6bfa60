-- The entry in the sections of a compiled terminfo file, term(5).
use Rattle.std.specs.Prelude.{◌≡◌, ◌-◌, ℕ, Bool, false, List, [], ◌∷◌, ◌++◌, length, take, drop, map, replicate}
use Rattle.std.specs.Prelude.{slice_get, Option, Some, None, Result, Ok, Err, IsOk, if◌then◌else◌, ◌==◌, nat_lt}
use Rattle.std.specs.Prelude.{option_and_then}
use Rattle.std.specs.List.{list_any}
use Rattle.ti_caps.specs.declared.types.Kind.{Kind}
use Rattle.ti_caps.specs.declared.types.Kind.TheVariants as kinds
use Rattle.ti_caps.specs.declared.value.Value.{Value}
use Rattle.ti_caps.specs.declared.value.Value.TheVariants.{Flag, Number, String}
use Rattle.ti_caps.specs.Entry.{Content, string_in, with_value}
use Rattle.ti_caps.specs.Fits.{names_fit}
use Rattle.ti_compiled.specs.declared.types.PackFault.{PackFault}
use Rattle.ti_compiled.specs.declared.types.PackFault.TheVariants.{Short, BadMagic, BadCount, BadFlag, BadNumber}
use Rattle.ti_compiled.specs.declared.types.PackFault.TheVariants.{BadOffset, NoNul, TooLarge, NoMemory, BadNames}
use Rattle.ti_compiled.specs.Layout.{Parts, words, numbers_in, half}
use Rattle.ti_compiled.specs.Readings.{◌>>=◌, parts_of}

-- the bytes before the first NUL
abbrev pub before_nul : List ℕ → List ℕ
before_nul [] = []
before_nul (b ∷ rest) = if b == 0 then [] else b ∷ before_nul rest

-- the value of a flag's byte
abbrev pub flag_value : ℕ → Option Value
flag_value byte = if byte == 1 then Some Flag else None

-- the value of a number; `negatives` and the numbers above mean negative ones
abbrev pub number_value : ℕ → ℕ → Option Value
number_value negatives number = if nat_lt number negatives then Some (Number number) else None

-- the string at an offset
abbrev pub string_value : List ℕ → ℕ → Option Value
string_value table offset = if nat_lt offset 32768 then Some (String (before_nul (drop offset table))) else None

-- this many rows: the values, followed by rows without a value
abbrev pub filled : ℕ → List (Option Value) → List (Option Value)
filled count values = take count (values ++ replicate count None)

-- the rows of all capabilities, by place
abbrev pub rows_of : List (Option Value) → List (Option Value) → List (Option Value) → List (Option Value)
rows_of flags numbers strings = filled 44 flags ++ (filled 39 numbers ++ filled 414 strings)

abbrev pub flag_values : Parts → List (Option Value)
flag_values parts = map flag_value parts.flags

abbrev pub number_values : Parts → List (Option Value)
number_values parts = map (number_value (half parts.form)) (numbers_in parts.form parts.numbers)

abbrev pub string_values : Parts → List (Option Value)
string_values parts = map (string_value parts.table) (words parts.offsets)

-- the entry in the sections
unfoldable pub entry_of : Parts → Content
entry_of parts =
    record {
      names = before_nul parts.names;
      values = rows_of (flag_values parts) (number_values parts) (string_values parts);
    }

-- the value in the sections at a position of a kind
abbrev pub value_of : Parts → Kind → ℕ → Option Value
value_of parts kinds.Flag position = option_and_then flag_value (slice_get parts.flags position)
value_of parts kinds.Number position =
    option_and_then (number_value (half parts.form)) (slice_get (numbers_in parts.form parts.numbers) position)
value_of parts kinds.String position =
    option_and_then (string_value parts.table) (slice_get (words parts.offsets) position)

-- the entry of a file, or the file's first fault
unfoldable pub read_of : List ℕ → Result Content PackFault
read_of file = parts_of file >>= λ parts. Ok (entry_of parts)

-- a string is longer than an entry can hold
abbrev pub is_long : Option (List ℕ) → Bool
is_long None = false
is_long (Some bytes) = nat_lt 4095 (length bytes)

abbrev pub is_long_string : Option Value → Bool
is_long_string value = is_long (string_in value)

-- An entry can hold the contents: its names can be those of a source text, and no string is too long.
unfoldable pub fit_of : Content → Result Content PackFault
fit_of entry =
    if names_fit entry.names then (if list_any is_long_string (drop 83 entry.values) then Err TooLarge else Ok entry)
    else Err BadNames

-- the entry with this value at a place, or unchanged if there is no value
unfoldable pub with_row : Content → ℕ → Option Value → Content
with_row entry place None = entry
with_row entry place (Some value) = with_value entry place (Some value)

-- the entry with the values of only its first places
unfoldable pub partly : Content → ℕ → Content
partly entry count = record { names = entry.names; values = take count entry.values ++ replicate (497 - count) None }

-- The call's fault is the defined one. A call asks for memory only if there is no fault.
abbrev pub FailsBy : {Y : Type 0} → PackFault → Result Y PackFault → Type 0
FailsBy NoMemory defined = IsOk defined
FailsBy Short defined = defined ≡ Err Short
FailsBy BadMagic defined = defined ≡ Err BadMagic
FailsBy BadCount defined = defined ≡ Err BadCount
FailsBy BadFlag defined = defined ≡ Err BadFlag
FailsBy BadNumber defined = defined ≡ Err BadNumber
FailsBy BadOffset defined = defined ≡ Err BadOffset
FailsBy NoNul defined = defined ≡ Err NoNul
FailsBy TooLarge defined = defined ≡ Err TooLarge
FailsBy BadNames defined = defined ≡ Err BadNames

-- the call's result, seen through the view, is the defined one, unless memory ran out
abbrev pub Gives : {X Y : Type 0} → (X → Y) → Result X PackFault → Result Y PackFault → Type 0
Gives view (Ok x) defined = defined ≡ Ok (view x)
Gives view (Err e) defined = FailsBy e defined
