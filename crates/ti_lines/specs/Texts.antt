-- A certificate's text and what it says: ASCII, each line ended by LF; the first line with the size, the line of
-- alternate characters if there are any, the lines about capabilities, and the last line.
use Rattle.std.specs.Prelude.{ℕ, ◌≡◌, List, [], ◌∷◌, ◌++◌, Option, None, Some}
use Rattle.std.specs.List.{AllByRecursion}
use Rattle.hex.specs.Hex.{IsBytes}
use Rattle.ti_lines.specs.declared.row_lines.RowLine.{RowLine}
use Rattle.ti_lines.specs.Heads.{size_text, acsc_text, end_text, IsSizeText}
use Rattle.ti_lines.specs.RowLines.{line_text, IsLine, IsTextOf}

-- the content of a certificate
pub record Certificate : Type 0 where
  pub rows : ℕ
  pub cols : ℕ
  pub acsc : Option (List ℕ)
  pub lines : List RowLine

abbrev pub acsc_lines : Option (List ℕ) → List (List ℕ)
acsc_lines None = []
acsc_lines (Some bytes) = acsc_text bytes ∷ []

abbrev pub row_lines : List RowLine → List (List ℕ)
row_lines [] = end_text ∷ []
row_lines (line ∷ lines) = line_text line ∷ row_lines lines

abbrev pub line_texts : Certificate → List (List ℕ)
line_texts c = size_text c.rows c.cols ∷ (acsc_lines c.acsc ++ row_lines c.lines)

-- an LF after each line
abbrev pub ended : List (List ℕ) → List ℕ
ended [] = []
ended (line ∷ lines) = line ++ 10 ∷ ended lines

abbrev pub IsAcsc : Option (List ℕ) → Type 0
IsAcsc None = Unit {0}
IsAcsc (Some bytes) = IsBytes bytes

-- `text` is that of the certificate `c`
pub record IsCertificateText (text : List ℕ) (c : Certificate) : Type 0 where
  pub size : IsSizeText (size_text c.rows c.cols) c.rows c.cols
  pub acsc : IsAcsc c.acsc
  pub lines : AllByRecursion IsLine c.lines
  pub spelled : ended (line_texts c) ≡ text

-- no two lines have one text
abbrev pub OneLine : Type 0
OneLine = (text : List ℕ) (a b : RowLine) → IsTextOf text a → IsTextOf text b → a ≡ b
