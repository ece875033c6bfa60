-- The layout of a compiled terminfo file, as a relation between its bytes and an entry: term(5), "Legacy
-- Storage Format" and "Extended Number Format". A file is its sections joined end to end.
use Rattle.std.specs.Prelude.{◌≡◌, ℕ, ◌+◌, ◌*◌, ◌/◌, ◌%◌, ◌≤◌, ◌<◌, ◌≢◌, ◌⊎◌, List, [], ◌∷◌, ◌++◌, length, Option, Some}
use Rattle.std.specs.Prelude.{None, Ok, flat_map}
use Rattle.std.specs.List.{AllByRecursion}
use Rattle.ti_caps.specs.declared.value.Value.{Value}
use Rattle.ti_caps.specs.declared.value.Value.TheVariants.{Flag, Number, String}
use Rattle.ti_caps.specs.Entry.{Content}
use Rattle.ti_compiled.specs.declared.types.Form.{Form}
use Rattle.ti_compiled.specs.declared.types.Form.TheVariants.{Legacy, Wide}
use Rattle.ti_compiled.specs.Layout.{half}
use Rattle.ti_compiled.specs.Contents.{rows_of, read_of}

-- a number of 16 bits, low byte first
unfoldable pub word : ℕ → List ℕ
word number = number % 256 ∷ number / 256 ∷ []

-- a number of 32 bits, low byte first
unfoldable pub long : ℕ → List ℕ
long number = number % 256 ∷ number / 256 % 256 ∷ number / 65536 % 256 ∷ number / 16777216 ∷ []

-- octal 432, or octal 1036 if numbers have 32 bits
abbrev pub magic : Form → ℕ
magic Legacy = 282
magic Wide = 542

-- the bytes of a number in the numbers section
abbrev pub number_bytes : Form → ℕ → List ℕ
number_bytes Legacy number = word number
number_bytes Wide number = long number

-- a file: six numbers of 16 bits, the sections, and the bytes after them
unfoldable pub layout : Form → (names flags padding numbers offsets table rest : List ℕ) → List ℕ
layout form names flags padding numbers offsets table rest =
    word (magic form) ++ (word (length names)
    ++ (word (length flags) ++ (word (length numbers) ++ (word (length offsets) ++ (word (length table)
    ++ (names ++ (flags ++ (padding ++ (flat_map (number_bytes form) numbers
    ++ (flat_map word offsets ++ (table ++ rest)))))))))))

abbrev pub HasNoNul : List ℕ → Type 0
HasNoNul bytes = AllByRecursion (λ b. b ≢ 0) bytes

-- the text begins with the bytes and a NUL, and none of the bytes is a NUL
abbrev pub StandsFirst : List ℕ → List ℕ → Type 0
StandsFirst bytes text = HasNoNul bytes × ((behind : List ℕ) × (text ≡ bytes ++ 0 ∷ behind))

-- the names section ends with a NUL, and its names are the bytes before the first NUL
abbrev pub AreNames : List ℕ → List ℕ → Type 0
AreNames section names = ((front : List ℕ) × (section ≡ front ++ 0 ∷ [])) × StandsFirst names section

-- the byte encodes this flag
abbrev pub IsFlag : ℕ → Option Value → Type 0
IsFlag byte (Some Flag) = byte ≡ 1
IsFlag byte (Some (Number number)) = ⊥
IsFlag byte (Some (String bytes)) = ⊥
IsFlag byte None = (byte ≡ 0) ⊎ (byte ≡ 254)

-- the number encodes this value: -1 is absent, -2 is cancelled
abbrev pub IsNumber : Form → ℕ → Option Value → Type 0
IsNumber form number (Some (Number value)) = (number ≡ value) × (number < half form)
IsNumber form number (Some Flag) = ⊥
IsNumber form number (Some (String bytes)) = ⊥
IsNumber form number None = (number + 1 ≡ 2 * half form) ⊎ (number + 2 ≡ 2 * half form)

-- The offset encodes this value: the bytes from there in the table up to a NUL. -1 is absent, -2 is cancelled.
abbrev pub IsString : List ℕ → ℕ → Option Value → Type 0
IsString table offset (Some (String bytes)) = (offset < 32768)
    × ((front : List ℕ) × (text : List ℕ) × (table ≡ front ++ text) × (length front ≡ offset) × StandsFirst bytes text)
IsString table offset (Some Flag) = ⊥
IsString table offset (Some (Number number)) = ⊥
IsString table offset None = (offset + 1 ≡ 65536) ⊎ (offset + 2 ≡ 65536)

-- the numbers encode the values, one by one
abbrev pub Each : (ℕ → Option Value → Type 0) → List ℕ → List (Option Value) → Type 0
Each Is [] [] = Unit {0}
Each Is [] (value ∷ values) = ⊥
Each Is (number ∷ numbers) [] = ⊥
Each Is (number ∷ numbers) (value ∷ values) = Is number value × Each Is numbers values

-- the sections of a file, and the values that they encode
pub record Sections : Type 0 where
  pub form : Form
  pub names : List ℕ
  pub flags : List ℕ
  pub padding : List ℕ
  pub numbers : List ℕ
  pub offsets : List ℕ
  pub table : List ℕ
  pub flag_values : List (Option Value)
  pub number_values : List (Option Value)
  pub string_values : List (Option Value)

-- a file with these sections has this entry, and the rest of the file is ignored
pub record HasSections (held : Sections) (file : List ℕ) (entry : Content) (rest : List ℕ) : Type 0 where
  pub whole : file ≡ layout held.form held.names held.flags held.padding held.numbers held.offsets held.table rest
  pub names_size : length held.names < 32768
  pub flags_size : length held.flags ≤ 44
  pub padding_size : length held.padding ≡ (length held.names + length held.flags) % 2
  pub numbers_size : length held.numbers ≤ 39
  pub offsets_size : length held.offsets ≤ 414
  pub table_size : length held.table < 32768
  pub names : AreNames held.names entry.names
  pub flags : Each IsFlag held.flags held.flag_values
  pub numbers : Each (IsNumber held.form) held.numbers held.number_values
  pub strings : Each (IsString held.table) held.offsets held.string_values
  pub values : entry.values ≡ rows_of held.flag_values held.number_values held.string_values

-- a file with this entry, and the rest of the file, which is ignored
abbrev pub IsPacked : List ℕ → Content → List ℕ → Type 0
IsPacked file entry rest = (held : Sections) × HasSections held file entry rest

-- a file in this layout is read as its entry
abbrev pub PackedIsRead : Type 0
PackedIsRead = (file : List ℕ) (entry : Content) (rest : List ℕ) → IsPacked file entry rest → read_of file ≡ Ok entry

-- a file that is read has its entry in this layout
abbrev pub ReadIsPacked : Type 0
ReadIsPacked =
    (file : List ℕ) (entry : Content) → AllByRecursion (λ b. b < 256) file → read_of file ≡ Ok entry
    → (rest : List ℕ) × IsPacked file entry rest
