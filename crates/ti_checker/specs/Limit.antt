-- The row at which the lines of an entry's certificate would pass the length that a certificate may have.
use Rattle.std.specs.Prelude.{ℕ, ◌≡◌, ◌<◌, ◌≤◌, ◌⊎◌, true, length, map, List, [], ◌∷◌, ◌++◌}
use Rattle.ti_caps.specs.Entry.{Content, string_at}
use Rattle.ti_conforms.specs.Charsets.{IsAmong}
use Rattle.ti_rows.specs.declared.rows.Row.{Row}
use Rattle.ti_rows.specs.Lists.{IsInRange}
use Rattle.ti_lines.specs.declared.row_lines.RowLine.{RowLine}
use Rattle.ti_lines.specs.Heads.{size_text}
use Rattle.ti_lines.specs.RowLines.{line_text}
use Rattle.ti_lines.specs.Texts.{acsc_lines, line_texts, ended}
use Rattle.ti_conforms.specs.Sends.{Sends}
use Rattle.ti_conforms.specs.Entries.{acsc, is_checked}
use Rattle.ti_cert.specs.Order.{HasLine, Precedes}
use Rattle.ti_cert.specs.Certificates.{HasEffect, limit}
use Rattle.ti_checker.specs.Certificate.{IsSent}

-- the bytes that the entry sends for a checked row, and their effect
pub record IsLineOf (entry : Content) (rows cols : ℕ) (line : RowLine) : Type 0 where
  pub sent : IsSent entry rows cols line.row line.bytes
  pub has : HasEffect rows cols line line.effect

-- each line's row precedes those of the lines that follow it
abbrev pub InOrder : ℕ → ℕ → List RowLine → Type 0
InOrder rows cols [] = Unit {0}
InOrder rows cols (line ∷ lines) =
    ((other : RowLine) → IsAmong lines other → Precedes rows cols line.row other.row) × InOrder rows cols lines

-- the entry's lines for all checked rows for which `Holds` holds, in the order of a certificate
pub record AreLines (entry : Content) (rows cols : ℕ) (Holds : Row → Type 0) (lines : List RowLine) : Type 0 where
  pub ordered : InOrder rows cols lines
  pub each : (line : RowLine) → IsAmong lines line → IsLineOf entry rows cols line
  pub held : (line : RowLine) → IsAmong lines line → Holds line.row
  pub all : (row : Row) → IsInRange rows cols row → is_checked entry row ≡ true → Holds row → HasLine lines row

-- the text with the entry's size and pairs, these lines, and `end`
abbrev pub text_with : Content → ℕ → ℕ → List RowLine → List ℕ
text_with entry rows cols lines =
    ended (line_texts (record { rows = rows; cols = cols; acsc = string_at entry acsc; lines = lines }))

-- this row, and those before it
abbrev pub IsUpTo : ℕ → ℕ → Row → Row → Type 0
IsUpTo rows cols row other = (other ≡ row) ⊎ Precedes rows cols other row

-- the lines up to this row's are too long with `end`
pub record PassesLimit (entry : Content) (rows cols : ℕ) (row : Row) : Type 0 where
  pub lines : List RowLine
  pub are : AreLines entry rows cols (λ other. IsUpTo rows cols row other) lines
  pub long : limit < length (text_with entry rows cols lines)

-- the lines of the rows before this one are not too long with `end`
pub record StaysWithin (entry : Content) (rows cols : ℕ) (row : Row) : Type 0 where
  pub lines : List RowLine
  pub are : AreLines entry rows cols (λ other. Precedes rows cols other row) lines
  pub short : length (text_with entry rows cols lines) ≤ limit

-- the lines of all checked rows are not too long with `end`
pub record FitsLimit (entry : Content) (rows cols : ℕ) : Type 0 where
  pub lines : List RowLine
  pub are : AreLines entry rows cols (λ row. Unit {0}) lines
  pub short : length (text_with entry rows cols lines) ≤ limit

-- ---- (Serves the code alone.) The text that is written so far.

-- the most bytes before `end`
abbrev pub most : ℕ
most = 67108860

-- the text with the entry's size and pairs, and these lines, without `end`
abbrev pub front_with : Content → ℕ → ℕ → List RowLine → List ℕ
front_with entry rows cols lines =
    ended (size_text rows cols ∷ (acsc_lines (string_at entry acsc) ++ map line_text lines))

-- the bytes that a string sends for a row, and their effect
pub record IsLineFor (rows cols : ℕ) (string : List ℕ) (line : RowLine) : Type 0 where
  pub sends : Sends string line.row line.bytes
  pub has : HasEffect rows cols line line.effect

-- the string's line for the row is added
pub record AddsLine (rows cols : ℕ) (string : List ℕ) (row : Row) (old new : List ℕ) : Type 0 where
  pub line : RowLine
  pub of_row : line.row ≡ row
  pub is : IsLineFor rows cols string line
  pub added : new ≡ old ++ (line_text line ++ 10 ∷ [])

-- the string's line for the row leaves no room for `end`
pub record Overflows (rows cols : ℕ) (string : List ℕ) (row : Row) (old : List ℕ) : Type 0 where
  pub new : List ℕ
  pub adds : AddsLine rows cols string row old new
  pub long : most < length new

-- the lines of the rows for which `Holds` holds are written
pub record IsWritten (entry : Content) (rows cols : ℕ) (Holds : Row → Type 0) (text : List ℕ) : Type 0 where
  pub lines : List RowLine
  pub are : AreLines entry rows cols Holds lines
  pub text_is : text ≡ front_with entry rows cols lines
  pub short : length text ≤ most

-- the lines of all checked rows with `end`, no longer than a certificate may be
pub record IsFullText (entry : Content) (rows cols : ℕ) (text : List ℕ) : Type 0 where
  pub lines : List RowLine
  pub are : AreLines entry rows cols (λ row. Unit {0}) lines
  pub text_is : text ≡ text_with entry rows cols lines
  pub short : length text ≤ limit
