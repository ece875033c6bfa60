-- The table that a certificate makes, and the facts known of it.
use Rattle.std.specs.Prelude.{ℕ, ◌≡◌, List, [], ◌∷◌, Option, Some, None}
use Rattle.vt_effects.specs.declared.effects.Sets.{Sets}
use Rattle.vt_effects.specs.Record.{record_of}
use Rattle.vt_effects.specs.declared.effects.Effect.{Effect}
use Rattle.vt_term.specs.Text.{Splits}
use Rattle.ti_conforms.specs.declared.closures.Charsets.{Charsets}
use Rattle.ti_conforms.specs.Charsets.{can_have}
use Rattle.ti_conforms.specs.Closures as closing
use Rattle.ti_rows.specs.declared.rows.Row.{Row}
use Rattle.ti_rows.specs.Asked.{start_of}
use Rattle.ti_conforms.specs.Certified.{sendable}
use Rattle.ti_conforms.specs.Resync.{resync_rows, texts_of}
use Rattle.ti_conforms.specs.Table.{Table, resync_of}
use Rattle.ti_cert.specs.Strings.{Strings, row_string}
use Rattle.ti_cert.specs.Known.{Known}
use Rattle.ti_cert.specs.Lengths.{longest_in}

-- the strings, with the facts that say how they may be used
pub record CheckedTable : Type 0 where
  pub known : Known
  pub acsc : Option (List ℕ)
  pub settled : Charsets

-- the table as a driver of a terminal sees it
abbrev pub checked_of : Known → Charsets → Table
checked_of k settled = record {
  rows = k.strings.rows;
  cols = k.strings.cols;
  line_of = λ row. row_string k.strings row;
  looks = k.looks;
  reached = λ c. can_have k.reach c;
  settled = λ c. closing.has settled c;
  resync = resync_of k.strings.rows (λ row. row_string k.strings row);
  longest = longest_in k.strings;
}

abbrev pub table_of : CheckedTable → Table
table_of c = checked_of c.known c.settled

-- the part of it that a painter sends
abbrev pub certified : CheckedTable → Table
certified c = sendable (table_of c)

-- ---- (Serves the code alone.) The effects of strings together.

-- the first of these bytes, if there is one
abbrev pub head_of : List ℕ → Option ℕ
head_of [] = None
head_of (b ∷ bytes) = Some b

-- the first byte of a resynchronization
abbrev pub first_of_resync : Strings → Option ℕ
first_of_resync s = head_of (texts_of (λ row. row_string s row) (resync_rows s.rows))

-- the change of the charsets by the row's string, `None` if there is no string
pub data Changes (s : Strings) (row : Row) : Option Sets → Type 0 where
  NoString : row_string s row ≡ None → Changes s row None
  OfString : (bytes : List ℕ) → row_string s row ≡ Some bytes → (tokens : List (List ℕ)) → Splits bytes tokens []
      → (effect : Effect)
      → record_of s.rows s.cols (start_of s.rows s.cols row) tokens ≡ Some effect → Changes s row (Some effect.charset)
