-- The sections of a compiled terminfo file, or its first fault, term(5).
use Rattle.std.specs.Prelude.{◌≡◌, ℕ, ◌+◌, ◌*◌, ◌%◌, Bool, ◌&&◌, ◌||◌, List, [], ◌∷◌, length, take, drop, Result, Ok}
use Rattle.std.specs.Prelude.{Err, if◌then◌else◌, ◌==◌, nat_le, nat_lt}
use Rattle.std.specs.List.{list_all, list_any}
use Rattle.ti_compiled.specs.declared.types.Form.{Form}
use Rattle.ti_compiled.specs.declared.types.Form.TheVariants.{Legacy, Wide}
use Rattle.ti_compiled.specs.declared.types.PackFault.{PackFault}
use Rattle.ti_compiled.specs.declared.types.PackFault.TheVariants.{Short, BadMagic, BadCount, BadFlag, BadNumber}
use Rattle.ti_compiled.specs.declared.types.PackFault.TheVariants.{BadOffset, NoNul}
use Rattle.ti_compiled.specs.declared.sections.Sizes.{Sizes}
use Rattle.ti_compiled.specs.declared.sections.Sections.{Sections}
use Rattle.ti_compiled.specs.Layout.{Parts, words, width, numbers_in, half, is_number, is_flag, is_nul, ends_with_nul}

infixl 10 ◌>>=◌
abbrev pub ◌>>=◌ : {A B : Type 0} → Result A PackFault → (A → Result B PackFault) → Result B PackFault
(Ok x) >>= f = f x
(Err e) >>= f = Err e

-- the call's result, seen through the view, is that of reading
abbrev pub Is : {X Y : Type 0} → (X → Y) → Result X PackFault → Result Y PackFault → Type 0
Is view (Ok x) read = read ≡ Ok (view x)
Is view (Err e) read = read ≡ Err e

-- a check passes, or has this fault
abbrev pub Judged : Type 0
Judged = Result (Unit {0}) PackFault

abbrev pub judged : Bool → PackFault → Judged
judged right fault = if right then Ok tt else Err fault

-- the number of 16 bits that the bytes begin with, and the rest
abbrev pub word_of : List ℕ → Result (ℕ × List ℕ) PackFault
word_of [] = Err Short
word_of (low ∷ []) = Err Short
word_of (low ∷ high ∷ rest) = Ok (low + 256 * high, rest)

-- the form with this magic number: octal 432, and octal 1036 for numbers of 32 bits
abbrev pub form_of : ℕ → Result Form PackFault
form_of magic = if magic == 282 then Ok Legacy else (if magic == 542 then Ok Wide else Err BadMagic)

-- No size is negative, and no count is above that of the capabilities of its kind.
abbrev pub sizes_fit : Sizes → Bool
sizes_fit sizes = nat_lt sizes.names 32768
    && (nat_le sizes.flags 44 && (nat_le sizes.numbers 39 && (nat_le sizes.offsets 414 && nat_lt sizes.table 32768)))

-- the five numbers after the magic number
unfoldable pub sizes_of : List ℕ → Result (Sizes × List ℕ) PackFault
sizes_of bytes = do
  names ← word_of bytes
  flags ← word_of names.1
  numbers ← word_of flags.1
  offsets ← word_of numbers.1
  table ← word_of offsets.1
  let sizes : Sizes =
      record { names = names.0; flags = flags.0; numbers = numbers.0; offsets = offsets.0; table = table.0 } in
      (if sizes_fit sizes then Ok (sizes, table.1) else Err BadCount)

-- this many bytes, and the rest
abbrev pub cut_at : ℕ → List ℕ → Result (List ℕ × List ℕ) PackFault
cut_at count bytes = if nat_lt (length bytes) count then Err Short else Ok (take count bytes, drop count bytes)

-- The sections in their order. A byte of padding follows the flags if names and flags together have an odd size.
unfoldable pub sections_of : Form → Sizes → List ℕ → Result Parts PackFault
sections_of form sizes bytes = do
  names ← cut_at sizes.names bytes
  flags ← cut_at sizes.flags names.1
  padding ← cut_at ((sizes.names + sizes.flags) % 2) flags.1
  numbers ← cut_at (width form * sizes.numbers) padding.1
  offsets ← cut_at (2 * sizes.offsets) numbers.1
  table ← cut_at sizes.table offsets.1
  Ok (record {
    form = form;
    names = names.0;
    flags = flags.0;
    numbers = numbers.0;
    offsets = offsets.0;
    table = table.0;
  })

-- An offset of -1 or -2 has no string. Any other must be in the table, with a NUL at it or after it.
abbrev pub offset_judged : List ℕ → ℕ → Judged
offset_judged table offset =
    if nat_le 65534 offset then Ok tt
    else (if nat_le (length table) offset || nat_le 32768 offset then Err BadOffset
    else judged (list_any is_nul (drop offset table)) NoNul)

-- the first fault of the offsets
abbrev pub offsets_judged : List ℕ → List ℕ → Judged
offsets_judged table [] = Ok tt
offsets_judged table (offset ∷ rest) = offset_judged table offset >>= λ _. offsets_judged table rest

-- the first fault of the sections
unfoldable pub parts_judged : Parts → Judged
parts_judged parts = do
  names ← judged (ends_with_nul parts.names) NoNul
  flags ← judged (list_all is_flag parts.flags) BadFlag
  numbers ← judged (list_all (is_number (half parts.form)) (numbers_in parts.form parts.numbers)) BadNumber
  offsets_judged parts.table (words parts.offsets)

-- the sections of a file without a fault, or its first fault
unfoldable pub parts_of : List ℕ → Result Parts PackFault
parts_of file = do
  magic ← word_of file
  form ← form_of magic.0
  sizes ← sizes_of magic.1
  parts ← sections_of form sizes.0 sizes.1
  judgement ← parts_judged parts
  Ok parts

-- the sections as the code's slices have them
abbrev pub parts_view : Sections → Parts
parts_view parts =
    record {
      form = parts.form;
      names = parts.names.now;
      flags = parts.flags.now;
      numbers = parts.numbers.now;
      offsets = parts.offsets.now;
      table = parts.table.now;
    }
