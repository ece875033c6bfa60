-- An entry of terminfo(5): its names, and a finite map from capabilities to values.
use Rattle.std.specs.Prelude.{ℕ, ◌^◌, ◌<◌, ◌≡◌, ◌≢◌, Bool, true, false, IsTrue, List, Option, Some, None, length}
use Rattle.std.specs.Prelude.{replicate, slice_index_or, slice_set}
use Rattle.std.specs.List.{AllByRecursion}
use Rattle.ti_caps.specs.declared.types.Kind.TheVariants as kinds
use Rattle.ti_caps.specs.declared.value.Value.{Value}
use Rattle.ti_caps.specs.declared.value.Value.TheVariants.{Flag, Number, String}
use Rattle.ti_caps.specs.Table.{kind_of}
use Rattle.ti_caps.specs.Fits.{names_fit, string_fits}

-- the bytes of the names field, and the value of each place's capability, if the entry has it
pub record Content : Type 0 where
  pub names : List ℕ
  pub values : List (Option Value)

-- the value of the capability at a place
unfoldable pub value_at : Content → ℕ → Option Value
value_at entry place = slice_index_or entry.values place None

-- the entry with this value at a place, or without one there
unfoldable pub with_value : Content → ℕ → Option Value → Content
with_value entry place value = record { names = entry.names; values = slice_set entry.values place value }

-- the entry with these names and no capabilities
unfoldable pub bare_entry : List ℕ → Content
bare_entry names = record { names = names; values = replicate 497 None }

-- whether a value is a flag; its number; its bytes
abbrev pub has_flag : Option Value → Bool
has_flag (Some Flag) = true
has_flag _ = false

abbrev pub number_in : Option Value → Option ℕ
number_in (Some (Number n)) = Some n
number_in _ = None

abbrev pub string_in : Option Value → Option (List ℕ)
string_in (Some (String bytes)) = Some bytes
string_in _ = None

-- the flag, the number and the string at a place
abbrev pub flag_at : Content → ℕ → Bool
flag_at entry place = has_flag (value_at entry place)

abbrev pub number_at : Content → ℕ → Option ℕ
number_at entry place = number_in (value_at entry place)

abbrev pub string_at : Content → ℕ → Option (List ℕ)
string_at entry place = string_in (value_at entry place)

-- the values that a capability at a place can have
abbrev pub FitsPlace : ℕ → Option Value → Type 0
FitsPlace place None = Unit {0}
FitsPlace place (Some Flag) = kind_of place ≡ kinds.Flag
FitsPlace place (Some (Number n)) = (kind_of place ≡ kinds.Number) × (n < 2 ^ 31)
FitsPlace place (Some (String bytes)) = (kind_of place ≡ kinds.String) × IsTrue (string_fits bytes)

-- the bytes of a string, as numbers
abbrev pub HasBytes : Option Value → Type 0
HasBytes (Some (String bytes)) = AllByRecursion (λ b. b < 256) bytes
HasBytes _ = Unit {0}

-- the names can be written, there is a row for each capability, and each value fits its capability
pub record IsEntry (entry : Content) : Type 0 where
  pub names_fit : IsTrue (names_fit entry.names)
  pub size : length entry.values ≡ 497
  pub fits : (place : ℕ) → FitsPlace place (value_at entry place)
  pub bytes : (place : ℕ) → HasBytes (value_at entry place)

-- new is old with this value at the place; the names and all other values stay
pub record SetsOnly (old new : Content) (place : ℕ) (value : Option Value) : Type 0 where
  pub names : new.names ≡ old.names
  pub there : value_at new place ≡ value
  pub others : (other : ℕ) → other ≢ place → value_at new other ≡ value_at old other
