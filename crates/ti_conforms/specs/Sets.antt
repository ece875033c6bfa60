-- Which charsets a terminal can have during and between the strings of an entry, by the terminal's own tokens.
use Rattle.std.specs.Prelude.{ℕ, ◌≡◌, ◌&&◌, Bool, true, false, List, [], Some}
use Rattle.vt_term.specs.Text.{Splits}
use Rattle.vt_term.specs.Function.{function_of}
use Rattle.vt_term.specs.Screen.{Charset, is_graphic}
use Rattle.ti_conforms.specs.Charsets.{charset_after, charset_over, IsAmong, reset_charset}
use Rattle.ti_rows.specs.declared.rows.Row.{Row}
use Rattle.ti_rows.specs.declared.rows.Row.TheVariants.{Smacs, Rmacs}
use Rattle.ti_conforms.specs.Table.{Table, has, resync, settles}

-- the token occurs in a line
pub record Occurs (t : Table) (token : List ℕ) : Type 0 where
  pub row : Row
  pub bytes : List ℕ
  pub there : t.line_of row ≡ Some bytes
  pub tokens : List (List ℕ)
  pub whole : Splits bytes tokens []
  pub among : IsAmong tokens token

-- Reached: the least set that has the reset charset and that no token of a line leads out of.
pub data CanHave (t : Table) : Charset → Type 0 where
  AtReset : (c : Charset) → c ≡ reset_charset → CanHave t c
  AfterToken : (c d : Charset) (token : List ℕ) → CanHave t c → Occurs t token → d ≡ charset_after (function_of token) c
      → CanHave t d

-- a whole text leads from `c` to `d`
pub record LeadsBy (bytes : List ℕ) (c d : Charset) : Type 0 where
  pub tokens : List (List ℕ)
  pub whole : Splits bytes tokens []
  pub is : d ≡ charset_over tokens c

-- Settled: the least set that has the charsets that a resynchronization leaves of reached ones, and that no whole
-- line leads out of, except for lines that begin or end a program's screen.
pub data CanSettle (t : Table) : Charset → Type 0 where
  AfterResync : (c d : Charset) → CanHave t c → LeadsBy (resync t) c d → CanSettle t d
  AfterLine : (c d : Charset) (row : Row) (bytes : List ℕ) → CanSettle t c → t.line_of row ≡ Some bytes
      → settles row ≡ true → LeadsBy bytes c d → CanSettle t d

-- the strings that switch to the graphic set and back both have lines
abbrev pub has_sets : Table → Bool
has_sets t = has t Smacs && has t Rmacs

-- the table's sets hold at least these, and every settled charset is plain if lines can't switch sets
pub record SetsHold (t : Table) : Type 0 where
  pub reached : (c : Charset) → CanHave t c → t.reached c ≡ true
  pub settled : (c : Charset) → CanSettle t c → t.settled c ≡ true
  pub settled_reached : (c : Charset) → t.settled c ≡ true → t.reached c ≡ true
  pub plain : has_sets t ≡ false → (c : Charset) → t.settled c ≡ true → is_graphic c ≡ false
