-- All values of a compiled file at once.
use Rattle.std.specs.Prelude.{ℤ, pos, ℕ, ◌≡◌, ◌<◌, Bool, false, List, length, slice_index_or, if◌then◌else◌}
use Rattle.std.specs.Prelude.{Option, Some, None, Result, Ok, Err}
use Rattle.std.specs.Option.{option_and_then}
use Rattle.ti_caps.specs.Entry.{Content, flag_at, number_at, string_at}
use Rattle.ti_caps.specs.Table.{place_from}
use Rattle.ti_caps.specs.declared.types.Kind.TheVariants as kinds
use Rattle.ti_compiled.specs.declared.types.PackFault.{PackFault}
use Rattle.terminfo_c.specs.Codes.{file_code}
use Rattle.terminfo_c.specs.declared.tables.Text.{Text}
use Rattle.terminfo_c.specs.declared.tables.Number.{Number}

-- 0, or the number of the file's first fault
abbrev pub read_code : Result Content PackFault → ℤ
read_code (Ok entry) = pos 0
read_code (Err fault) = file_code fault

-- what is so of the entry that a file has; of a faulty file, that nothing was written
abbrev pub Writes : Result Content PackFault → (Content → Type 0) → Type 0 → Type 0
Writes (Ok entry) IsWritten stays = IsWritten entry
Writes (Err fault) IsWritten stays = stays

-- a string and a number, as C reads them
abbrev pub text_of : Text → Option (List ℕ)
text_of text = if text.is_there then Some text.bytes.now else None

abbrev pub number_of : Number → Option ℕ
number_of found = if found.is_there then Some found.number else None

-- the values at a position of their kind; past the last one a flag is off, and there is no number and no string
abbrev pub flag_in : Content → Option ℕ → Bool
flag_in entry (Some place) = flag_at entry place
flag_in entry None = false

abbrev pub flag_value : Content → ℕ → Bool
flag_value entry position = flag_in entry (place_from kinds.Flag position)

abbrev pub number_value : Content → ℕ → Option ℕ
number_value entry position = option_and_then (number_at entry) (place_from kinds.Number position)

abbrev pub string_value : Content → ℕ → Option (List ℕ)
string_value entry position = option_and_then (string_at entry) (place_from kinds.String position)

-- each element, seen through the view, is the value at its position
pub record IsTable {A B : Type 0} (view : A → B) (value : ℕ → B) (old new : List A) : Type 0 where
  pub size : length new ≡ length old
  pub each : (position : ℕ) (other : A) → position < length old
      → view (slice_index_or new position other) ≡ value position
