-- The legacy rules, term(5), "Legacy Storage Format", by themselves: all numbers have 16 bits.
use Rattle.std.specs.Prelude.{◌≡◌, ℕ, ◌+◌, ◌*◌, ◌%◌, ◌<◌, false, List, ◌∷◌, length, map, Result, Ok, Err, if◌then◌else◌}
use Rattle.std.specs.Prelude.{◌==◌, nat_lt}
use Rattle.std.specs.List.{list_all, AllByRecursion}
use Rattle.ti_caps.specs.Entry.{Content}
use Rattle.ti_compiled.specs.declared.types.PackFault.{PackFault}
use Rattle.ti_compiled.specs.declared.types.PackFault.TheVariants.{BadMagic, BadFlag, BadNumber, NoNul, TooLarge}
use Rattle.ti_compiled.specs.declared.types.Form.TheVariants.{Legacy}
use Rattle.ti_compiled.specs.declared.sections.Sizes.{Sizes}
use Rattle.ti_compiled.specs.Layout.{words, is_number, is_flag, ends_with_nul}
use Rattle.ti_compiled.specs.Readings.{◌>>=◌, Judged, judged, word_of, sizes_of, cut_at, offsets_judged}
use Rattle.ti_compiled.specs.Contents.{before_nul, flag_value, number_value, string_value, rows_of, read_of}
use Rattle.ti_compiled.specs.Written.{numbers_of, is_wide, written_in, packing_of}

-- the sections, without a form
pub record Slices : Type 0 where
  pub names : List ℕ
  pub flags : List ℕ
  pub numbers : List ℕ
  pub offsets : List ℕ
  pub table : List ℕ

unfoldable pub legacy_sections : Sizes → List ℕ → Result Slices PackFault
legacy_sections sizes bytes = do
  names ← cut_at sizes.names bytes
  flags ← cut_at sizes.flags names.1
  padding ← cut_at ((sizes.names + sizes.flags) % 2) flags.1
  numbers ← cut_at (2 * sizes.numbers) padding.1
  offsets ← cut_at (2 * sizes.offsets) numbers.1
  table ← cut_at sizes.table offsets.1
  Ok (record { names = names.0; flags = flags.0; numbers = numbers.0; offsets = offsets.0; table = table.0 })

unfoldable pub legacy_judged : Slices → Judged
legacy_judged slices = do
  names ← judged (ends_with_nul slices.names) NoNul
  flags ← judged (list_all is_flag slices.flags) BadFlag
  numbers ← judged (list_all (is_number 32768) (words slices.numbers)) BadNumber
  offsets_judged slices.table (words slices.offsets)

unfoldable pub legacy_entry : Slices → Content
legacy_entry slices = record {
  names = before_nul slices.names;
  values =
      rows_of (map flag_value slices.flags) (map (number_value 32768) (words slices.numbers))
      (map (string_value slices.table) (words slices.offsets));
}

-- the entry of a file by the legacy rules alone
unfoldable pub legacy_read : List ℕ → Result Content PackFault
legacy_read file = do
  magic ← word_of file
  right ← judged (magic.0 == 282) BadMagic
  sizes ← sizes_of magic.1
  slices ← legacy_sections sizes.0 sizes.1
  judgement ← legacy_judged slices
  Ok (legacy_entry slices)

-- the file of an entry by the legacy rules alone
unfoldable pub legacy_packing : Content → Result (List ℕ) PackFault
legacy_packing entry =
    if nat_lt 4096 (length (written_in Legacy entry)) then Err TooLarge else Ok (written_in Legacy entry)

-- the file begins with the magic number of the form with 32-bit numbers: the bytes 1e 02
abbrev pub BeginsWide : List ℕ → Type 0
BeginsWide file = (rest : List ℕ) × (file ≡ 30 ∷ 2 ∷ rest)

-- a file with another beginning is read by the legacy rules alone
abbrev pub LegacyIsRead : Type 0
LegacyIsRead =
    (file : List ℕ) → AllByRecursion (λ b. b < 256) file → (BeginsWide file → ⊥) → read_of file ≡ legacy_read file

-- no number of the entry needs more than 16 bits with a sign
abbrev pub HasSmallNumbers : Content → Type 0
HasSmallNumbers entry = AllByRecursion (λ number. is_wide number ≡ false) (numbers_of entry)

-- an entry without a number above 32767 is written by the legacy rules alone
abbrev pub LegacyIsWritten : Type 0
LegacyIsWritten = (entry : Content) → HasSmallNumbers entry → packing_of entry ≡ legacy_packing entry
