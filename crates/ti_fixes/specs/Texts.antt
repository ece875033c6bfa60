-- A text in which one field was written anew, and nothing else.
use Rattle.std.specs.Prelude.{ℕ, ◌≡◌, true, List, [], ◌∷◌, ◌++◌}
use Rattle.ti_caps.specs.Fits.{is_one_field}
use Rattle.ti_caps.specs.Table.{name_at}
use Rattle.ti_caps.specs.declared.fits.Opener.TheVariants.{Nothing}
use Rattle.ti_source.specs.Marks.{comma, equals, space}
use Rattle.ti_source.specs.Prints.{string_text}
use Rattle.ti_source.specs.Related.{NoFeed}

-- NAME=STRING, with the string as `print` writes it
abbrev pub field_text : ℕ → List ℕ → List ℕ
field_text cap string = name_at cap ++ equals ∷ string_text string

-- The text with one piece of it replaced by the field: a piece of one line that no comma ends within. Or the field
-- stands between two parts of the text, with a space before it and a comma after it.
pub data IsWritten (cap : ℕ) (string old new : List ℕ) : Type 0 where
  Replaced : (front own back : List ℕ) → old ≡ front ++ (own ++ back) → NoFeed own → is_one_field Nothing own ≡ true
      → new ≡ front ++ (field_text cap string ++ back) → IsWritten cap string old new
  Added : (front back : List ℕ) → old ≡ front ++ back
      → new ≡ front ++ ((space ∷ (field_text cap string ++ comma ∷ [])) ++ back) → IsWritten cap string old new
