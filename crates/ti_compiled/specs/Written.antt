-- The compiled terminfo file that is written for an entry, term(5).
use Rattle.std.specs.Prelude.{◌≡◌, ℕ, ◌+◌, ◌-◌, ◌*◌, ◌%◌, ◌≤◌, Bool, false, List, [], ◌∷◌, ◌++◌, length, get_or, take}
use Rattle.std.specs.Prelude.{drop}
use Rattle.std.specs.Prelude.{map, flat_map, replicate, Option, Some, None, is_some, Result, Ok, Err, if◌then◌else◌}
use Rattle.std.specs.Prelude.{nat_lt}
use Rattle.std.specs.Int.{from_bool}
use Rattle.std.specs.List.{list_any}
use Rattle.ti_caps.specs.Entry.{Content, IsEntry, has_flag, number_in, string_in}
use Rattle.ti_caps.specs.declared.types.Kind.{Kind}
use Rattle.ti_caps.specs.declared.types.Kind.TheVariants.{Flag, Number, String}
use Rattle.ti_compiled.specs.declared.types.Form.{Form}
use Rattle.ti_compiled.specs.declared.types.Form.TheVariants.{Legacy, Wide}
use Rattle.ti_compiled.specs.declared.types.PackFault.{PackFault}
use Rattle.ti_compiled.specs.declared.types.PackFault.TheVariants.{TooLarge}
use Rattle.ti_compiled.specs.declared.pack.Plan.{Plan}
use Rattle.ti_compiled.specs.Layout.{half}
use Rattle.ti_compiled.specs.Contents.{read_of}
use Rattle.ti_compiled.specs.Packed.{layout, IsPacked}

-- the flags, numbers and strings of an entry, each in the order of the capabilities of its kind
unfoldable pub flags_of : Content → List Bool
flags_of entry = map has_flag (take 44 entry.values)

unfoldable pub numbers_of : Content → List (Option ℕ)
numbers_of entry = map number_in (take 39 (drop 44 entry.values))

unfoldable pub strings_of : Content → List (Option (List ℕ))
strings_of entry = map string_in (drop 83 entry.values)

-- an item before others; dropped if it is absent and the last
abbrev pub kept : {A : Type 0} → (A → Bool) → A → List A → List A
kept there item [] = if there item then item ∷ [] else []
kept there item (next ∷ items) = item ∷ (next ∷ items)

-- the items up to the last one that isn't absent
abbrev pub trimmed : {A : Type 0} → (A → Bool) → List A → List A
trimmed there [] = []
trimmed there (item ∷ items) = kept there item (trimmed there items)

abbrev pub itself : Bool → Bool
itself flag = flag

-- An absent number is -1.
abbrev pub number_cell : Form → Option ℕ → ℕ
number_cell form (Some number) = number
number_cell form None = 2 * half form - 1

-- The table has the strings one after the other, each followed by a NUL. An absent string has the offset -1.
abbrev pub offsets_from : ℕ → List (Option (List ℕ)) → List ℕ
offsets_from place [] = []
offsets_from place (None ∷ strings) = 65535 ∷ offsets_from place strings
offsets_from place (Some bytes ∷ strings) = place ∷ offsets_from (place + length bytes + 1) strings

abbrev pub string_cell : Option (List ℕ) → List ℕ
string_cell None = []
string_cell (Some bytes) = bytes ++ 0 ∷ []

abbrev pub table_of : List (Option (List ℕ)) → List ℕ
table_of strings = flat_map string_cell strings

-- whether a number needs more than 16 bits with a sign
abbrev pub is_wide : Option ℕ → Bool
is_wide None = false
is_wide (Some number) = nat_lt 32767 number

-- Numbers have 32 bits only if one of them needs them.
unfoldable pub form_for : Content → Form
form_for entry = if list_any is_wide (numbers_of entry) then Wide else Legacy

-- The plan has the form of an entry's file, the numbers of flags, numbers and strings in it, and the size of the
-- table.
pub record IsPlan (entry : Content) (plan : Plan) : Type 0 where
  pub form : plan.form ≡ form_for entry
  pub flags : plan.flags ≡ length (trimmed itself (flags_of entry))
  pub numbers : plan.numbers ≡ length (trimmed is_some (numbers_of entry))
  pub strings : plan.strings ≡ length (trimmed is_some (strings_of entry))
  pub table : plan.table ≡ length (table_of (trimmed is_some (strings_of entry)))
  pub few_flags : plan.flags ≤ 44
  pub few_numbers : plan.numbers ≤ 39
  pub few_strings : plan.strings ≤ 414
  pub small_table : plan.table ≤ 414 * 4096

-- whether an entry has the capability at a position among those of its kind
abbrev pub has_at : Kind → Content → ℕ → Bool
has_at Flag entry position = get_or (flags_of entry) position false
has_at Number entry position = is_some (get_or (numbers_of entry) position None)
has_at String entry position = is_some (get_or (strings_of entry) position None)

-- how many capabilities of a kind the file of an entry has: those up to the last one that the entry has
abbrev pub count_for : Kind → Content → ℕ
count_for Flag entry = length (trimmed itself (flags_of entry))
count_for Number entry = length (trimmed is_some (numbers_of entry))
count_for String entry = length (trimmed is_some (strings_of entry))

-- the sections of an entry
abbrev pub flag_cells : Content → List ℕ
flag_cells entry = map from_bool (trimmed itself (flags_of entry))

abbrev pub number_cells : Form → Content → List ℕ
number_cells form entry = map (number_cell form) (trimmed is_some (numbers_of entry))

abbrev pub offset_cells : Content → List ℕ
offset_cells entry = offsets_from 0 (trimmed is_some (strings_of entry))

-- the byte that makes the size of names and flags even, if it is odd
abbrev pub padding_for : List ℕ → List ℕ → List ℕ
padding_for names flags = replicate ((length names + length flags) % 2) 0

-- the file of an entry in this form
unfoldable pub written_in : Form → Content → List ℕ
written_in form entry =
    layout form (entry.names ++ 0 ∷ []) (flag_cells entry) (padding_for (entry.names ++ 0 ∷ []) (flag_cells entry))
    (number_cells form entry) (offset_cells entry) (table_of (trimmed is_some (strings_of entry))) []

-- the one file of an entry
unfoldable pub written : Content → List ℕ
written entry = written_in (form_for entry) entry

-- the greatest size in bytes of a file of each form
abbrev pub limit : Form → ℕ
limit Legacy = 4096
limit Wide = 32768

-- the file of an entry, unless it is too large
unfoldable pub packing_of : Content → Result (List ℕ) PackFault
packing_of entry = if nat_lt (limit (form_for entry)) (length (written entry)) then Err TooLarge else Ok (written entry)

-- the file of an entry is in the layout, with nothing after it
abbrev pub WrittenIsPacked : Type 0
WrittenIsPacked =
    (entry : Content) (file : List ℕ) → IsEntry entry → packing_of entry ≡ Ok file → IsPacked file entry []

-- the file of an entry is read as that entry
abbrev pub WrittenIsRead : Type 0
WrittenIsRead = (entry : Content) (file : List ℕ) → IsEntry entry → packing_of entry ≡ Ok file → read_of file ≡ Ok entry
