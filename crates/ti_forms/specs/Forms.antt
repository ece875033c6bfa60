-- The standard's strings of control sequences with numbers, and what they send and do for a row.
use Rattle.std.specs.Prelude.{ℕ, ◌+◌, ◌≡◌, ◌≤◌, true, List, [], ◌∷◌, ◌++◌, Option, None, Some}
use Rattle.std.specs.Fmt.{decimal}
use Rattle.ti_forms.specs.declared.forms.Form.{Form}
use Rattle.ti_rows.specs.Asked.{at_col, at_row}
use Rattle.ti_rows.specs.declared.rows.Row.{Row}
use Rattle.ti_rows.specs.declared.rows.Row.TheVariants.{Cup, Hpa, Vpa, Cub, Cuf, Cuu, Cud, Ech, Csr}
use Rattle.ti_lines.specs.declared.row_lines.RowLine.{RowLine}
use Rattle.ti_lines.specs.RowLines.{line_text}
use Rattle.vt_effects.specs.Basic.{placed_at}
use Rattle.vt_effects.specs.Effect.{unchanged}
use Rattle.vt_effects.specs.declared.effects.Effect.{Effect}
use Rattle.vt_effects.specs.declared.effects.Erasure.TheVariants as erasures
use Rattle.vt_effects.specs.declared.effects.Move.{Move}
use Rattle.vt_effects.specs.declared.effects.Move.TheVariants as moves

-- \E[%p1%d and a final byte (terminfo(5), "Parameterized Strings")
abbrev pub number_string : ℕ → List ℕ
number_string last = 27 ∷ 91 ∷ 37 ∷ 112 ∷ 49 ∷ 37 ∷ 100 ∷ last ∷ []

-- \E[%i%p1%d and a final byte
abbrev pub place_string : ℕ → List ℕ
place_string last = 27 ∷ 91 ∷ 37 ∷ 105 ∷ 37 ∷ 112 ∷ 49 ∷ 37 ∷ 100 ∷ last ∷ []

-- \E[%i%p1%d;%p2%d and a final byte
abbrev pub places_string : ℕ → List ℕ
places_string last =
    27 ∷ 91 ∷ 37 ∷ 105 ∷ 37 ∷ 112 ∷ 49 ∷ 37 ∷ 100 ∷ 59 ∷ 37 ∷ 112 ∷ 50 ∷ 37 ∷ 100 ∷ last ∷ []

-- \E[%i%p1%d;%p2%dH
abbrev pub move_string : List ℕ
move_string = places_string 72

-- CSI, a number in decimal and a final byte (ECMA-48 5.4)
abbrev pub with_number : ℕ → ℕ → List ℕ
with_number n last = 27 ∷ 91 ∷ (decimal n ++ last ∷ [])

-- CSI, two numbers and a final byte
abbrev pub with_numbers : ℕ → ℕ → ℕ → List ℕ
with_numbers m n last = 27 ∷ 91 ∷ (decimal m ++ 59 ∷ (decimal n ++ last ∷ []))

-- the bytes of a control sequence
abbrev pub second_text : Option ℕ → List ℕ
second_text None = []
second_text (Some n) = 59 ∷ decimal n

abbrev pub bytes_of : Form → List ℕ
bytes_of form = 27 ∷ 91 ∷ (decimal form.first ++ (second_text form.second ++ form.last ∷ []))

-- the rows whose capability has a standard string with numbers: places and counts of at most 500
pub data HasForm (row : Row) : Type 0 where
  ToPlace : (line column : ℕ) → row ≡ Cup line column → line ≤ 500 → column ≤ 500 → HasForm row
  ToColumn : (column : ℕ) → row ≡ Hpa column → column ≤ 500 → HasForm row
  ToLine : (line : ℕ) → row ≡ Vpa line → line ≤ 500 → HasForm row
  Left : (n : ℕ) → row ≡ Cub n → 1 ≤ n → n ≤ 500 → HasForm row
  Right : (n : ℕ) → row ≡ Cuf n → 1 ≤ n → n ≤ 500 → HasForm row
  Upward : (n : ℕ) → row ≡ Cuu n → 1 ≤ n → n ≤ 500 → HasForm row
  Downward : (n : ℕ) → row ≡ Cud n → 1 ≤ n → n ≤ 500 → HasForm row
  Erasing : (n : ℕ) → row ≡ Ech n → 1 ≤ n → n ≤ 500 → HasForm row
  Bounding : (top bottom : ℕ) → row ≡ Csr top bottom → top ≤ 500 → bottom ≤ 500 → HasForm row

-- that string: CUP, CHA, VPA, CUB, CUF, CUU, CUD, ECH (ECMA-48 8.3), and DECSTBM of the VT100
abbrev pub standard_string : Row → List ℕ
standard_string (Cup line column) = places_string 72
standard_string (Hpa column) = place_string 71
standard_string (Vpa line) = place_string 100
standard_string (Cub n) = number_string 68
standard_string (Cuf n) = number_string 67
standard_string (Cuu n) = number_string 65
standard_string (Cud n) = number_string 66
standard_string (Ech n) = number_string 88
standard_string (Csr top bottom) = places_string 114
standard_string _ = []

-- the bytes that it sends
abbrev pub standard_bytes : Row → List ℕ
standard_bytes (Cup line column) = with_numbers (line + 1) (column + 1) 72
standard_bytes (Hpa column) = with_number (column + 1) 71
standard_bytes (Vpa line) = with_number (line + 1) 100
standard_bytes (Cub n) = with_number n 68
standard_bytes (Cuf n) = with_number n 67
standard_bytes (Cuu n) = with_number n 65
standard_bytes (Cud n) = with_number n 66
standard_bytes (Ech n) = with_number n 88
standard_bytes (Csr top bottom) = with_numbers (top + 1) (bottom + 1) 114
standard_bytes _ = []

-- the cursor moves by rows or by columns
abbrev pub by_rows : Move → Effect
by_rows m = record unchanged { row = m; ends_pending = true }

abbrev pub by_cols : Move → Effect
by_cols m = record unchanged { col = m; ends_pending = true }

-- the margins become these lines, and the cursor goes home
abbrev pub bounded_by : ℕ → ℕ → Effect
bounded_by top bottom = record (placed_at 0 0) { margins = Some (record { top = top; bottom = bottom }) }

-- the effect of these bytes from the start of the row
abbrev pub standard_effect : Row → Effect
standard_effect (Cup line column) = placed_at line column
standard_effect (Hpa column) = at_col column
standard_effect (Vpa line) = at_row line
standard_effect (Cub n) = by_cols (moves.Back n)
standard_effect (Cuf n) = by_cols (moves.Forward n)
standard_effect (Cuu n) = by_rows (moves.Back n)
standard_effect (Cud n) = by_rows (moves.Forward n)
standard_effect (Ech n) = record unchanged { erasure = erasures.Next n }
standard_effect (Csr top bottom) = bounded_by top bottom
standard_effect _ = unchanged

-- the row has a standard string, and these are its bytes
pub record IsOfForm (row : Row) (bytes : List ℕ) : Type 0 where
  pub has : HasForm row
  pub bytes_are : bytes ≡ standard_bytes row

-- the row has a standard string, these are the bytes that it sends, and this is their effect
pub record IsWholeForm (row : Row) (bytes : List ℕ) (effect : Effect) : Type 0 where
  pub form : IsOfForm row bytes
  pub effect_is : effect ≡ standard_effect row

-- the line about a row with a standard string
abbrev pub standard_line : Row → RowLine
standard_line row = record { row = row; bytes = standard_bytes row; effect = standard_effect row }

-- the text is that of this line
pub record IsStandardLine (row : Row) (text : List ℕ) : Type 0 where
  pub has : HasForm row
  pub text_is : text ≡ line_text (standard_line row)

-- the string is the standard's for the row
pub record IsStandardFor (row : Row) (string : List ℕ) : Type 0 where
  pub has : HasForm row
  pub is : string ≡ standard_string row

-- the string is the standard's for the row, and the text is that of the line with the bytes that it sends
pub record IsStandardText (row : Row) (string text : List ℕ) : Type 0 where
  pub has : HasForm row
  pub string_is : string ≡ standard_string row
  pub text_is : text ≡ line_text (standard_line row)

-- the string is the standard's for the row, and these are the bytes that it sends
pub record IsStandardSent (row : Row) (string bytes : List ℕ) : Type 0 where
  pub form : IsOfForm row bytes
  pub string_is : string ≡ standard_string row
