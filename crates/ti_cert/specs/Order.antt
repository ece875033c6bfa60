-- The order of a certificate's lines about capabilities, and which of them are required.
use Rattle.std.specs.Prelude.{ℕ, ◌<◌, ◌≡◌, ◌⊎◌, List, Option, None, Some}
use Rattle.ti_conforms.specs.Charsets.{IsAmong}
use Rattle.ti_rows.specs.declared.rows.Row.{Row}
use Rattle.ti_rows.specs.declared.rows.Row.TheVariants.{Clear, Cup, Sgr0}
use Rattle.ti_rows.specs.Names.{order}
use Rattle.ti_rows.specs.Lists.{IsInRange, rank}
use Rattle.ti_lines.specs.declared.row_lines.RowLine.{RowLine}

-- by the byte order of the names, and then by the parameters
abbrev pub Precedes : ℕ → ℕ → Row → Row → Type 0
Precedes rows cols a b = (order a < order b) ⊎ ((order a ≡ order b) × (rank rows cols a < rank rows cols b))

-- one of these lines is about the row
pub record HasLine (lines : List RowLine) (row : Row) : Type 0 where
  pub line : RowLine
  pub among : IsAmong lines line
  pub of_row : line.row ≡ row

-- one of these lines is about the row's capability
pub record HasCap (lines : List RowLine) (row : Row) : Type 0 where
  pub line : RowLine
  pub among : IsAmong lines line
  pub of_cap : order line.row ≡ order row

-- one of these lines says that the row has these bytes
pub record GivesBytes (lines : List RowLine) (row : Row) (bytes : List ℕ) : Type 0 where
  pub line : RowLine
  pub among : IsAmong lines line
  pub of_row : line.row ≡ row
  pub bytes_are : line.bytes ≡ bytes

-- every certificate has lines about these capabilities
abbrev pub IsRequiredLine : Row → Type 0
IsRequiredLine row = (order row ≡ order Clear) ⊎ ((order row ≡ order (Cup 0 0)) ⊎ (order row ≡ order Sgr0))

-- the row's line comes before the next line: one about the row `next`, or, at `None`, the last line of the text
abbrev pub IsBefore : ℕ → ℕ → Option Row → Row → Type 0
IsBefore rows cols None row = Unit {0}
IsBefore rows cols (Some next) row = Precedes rows cols row next

abbrev pub IsOfCap : Option Row → Row → Type 0
IsOfCap None row = ⊥
IsOfCap (Some next) row = order row ≡ order next

-- A line about this row must come before the next line, and is missing: its capability is a required one, or has a line
-- or gets one now, and a capability with one line must have all that the size allows.
pub record IsLacking (rows cols : ℕ) (lines : List RowLine) (next : Option Row) (row : Row) : Type 0 where
  pub range : IsInRange rows cols row
  pub absent : HasLine lines row → ⊥
  pub before : IsBefore rows cols next row
  pub due : IsRequiredLine row ⊎ (HasCap lines row ⊎ IsOfCap next row)

-- the first row whose line is missing before the next line
pub record IsFirstLacking (rows cols : ℕ) (lines : List RowLine) (next : Option Row) (row : Row) : Type 0 where
  pub lacking : IsLacking rows cols lines next row
  pub first : (other : Row) → IsLacking rows cols lines next other → (other ≡ row) ⊎ Precedes rows cols row other

abbrev pub IsComplete : ℕ → ℕ → List RowLine → Option Row → Type 0
IsComplete rows cols lines next = (row : Row) → IsLacking rows cols lines next row → ⊥

-- a line about the row, or about one after it, is there already
pub record IsLate (rows cols : ℕ) (lines : List RowLine) (row : Row) : Type 0 where
  pub line : RowLine
  pub among : IsAmong lines line
  pub late : (line.row ≡ row) ⊎ Precedes rows cols row line.row

abbrev pub IsBehind : ℕ → ℕ → List RowLine → Row → Type 0
IsBehind rows cols lines row = (line : RowLine) → IsAmong lines line → Precedes rows cols line.row row

-- a line about this row may come next
pub record IsInPlace (rows cols : ℕ) (lines : List RowLine) (row : Row) : Type 0 where
  pub range : IsInRange rows cols row
  pub behind : IsBehind rows cols lines row
  pub complete : IsComplete rows cols lines (Some row)
