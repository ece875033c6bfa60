-- The names of an entry.
use Rattle.std.specs.Prelude.{◌≡◌, ⊤, ℕ, List, [], ◌∷◌, ◌++◌, Option, Some, None, string_bytes}
use Rattle.hex.specs.Hex.{encode_lower}
use Rattle.ti_caps.specs.Fits.{names_in}
use Rattle.ti_reports.specs.Texts.{IsShownAs}
use Rattle.ti_reports.specs.declared.written.Written.{Written}

-- A name as text, and in hexadecimal: two names with one text, of which one has bytes that aren't text, have different
-- digits.
pub record IsNameOf (name : List ℕ) (written : Written) : Type 0 where
  pub text : IsShownAs name (string_bytes written.text)
  pub digits : string_bytes written.hex ≡ encode_lower name

-- the name is there
abbrev pub HasName : List ℕ → Option Written → Type 0
HasName name (Some written) = IsNameOf name written
HasName name None = ⊥

-- the name, if there is one
abbrev pub IsNameIf : Option (List ℕ) → Option Written → Type 0
IsNameIf (Some name) written = HasName name written
IsNameIf None written = written ≡ None

-- each of the names in turn
abbrev pub AreNamesOf : List (List ℕ) → List Written → Type 0
AreNamesOf [] [] = ⊤
AreNamesOf [] (written ∷ others) = ⊥
AreNamesOf (name ∷ names) [] = ⊥
AreNamesOf (name ∷ names) (written ∷ others) = IsNameOf name written × AreNamesOf names others

abbrev pub without_first : List (List ℕ) → List (List ℕ)
without_first [] = []
without_first (first ∷ others) = others

-- the names of a names field but the first one
abbrev pub AreAliases : List ℕ → List Written → Type 0
AreAliases field aliases = AreNamesOf (without_first (names_in field)) aliases

-- ---- for private clauses: one more name, and some of the names of a field

-- there is one more, which is this name
pub record HasOneMore (before : List Written) (name : List ℕ) (after : List Written) : Type 0 where
  pub written : Written
  pub shown : IsNameOf name written
  pub added : after ≡ before ++ written ∷ []

-- some of the names are written, and these are the others
pub record AreBefore (field rest : List ℕ) (written : List Written) : Type 0 where
  pub front : List (List ℕ)
  pub shown : AreNamesOf front written
  pub whole : names_in field ≡ front ++ names_in rest
