-- A string of an entry in two forms: as a source text has it, and in hexadecimal.
use Rattle.std.specs.Prelude.{◌≡◌, ℕ, List, Option, Some, None, Ok, string_bytes}
use Rattle.hex.specs.Hex.{encode_lower}
use Rattle.ti_reports.specs.declared.written.Written.{Written}
use Rattle.ti_source.specs.Escapes.{unescaped}
use Rattle.ti_source.specs.Prints.{string_text}

-- The first form is printable, and is read as exactly the bytes of which the second one has the digits.
pub record Spells (string : List ℕ) (written : Written) : Type 0 where
  pub printed : string_bytes written.text ≡ string_text string
  pub reads : unescaped (string_bytes written.text) ≡ Ok string
  pub digits : string_bytes written.hex ≡ encode_lower string

-- both forms of the string, if there is one
abbrev pub IsSpelling : Option (List ℕ) → Option Written → Type 0
IsSpelling (Some string) (Some written) = Spells string written
IsSpelling (Some string) None = ⊥
IsSpelling None written = written ≡ None
