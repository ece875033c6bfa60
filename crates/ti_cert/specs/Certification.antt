-- A table that is made from an entry alone, and the text that it would be the table of.
use Rattle.std.specs.Prelude.{ℕ, ◌≡◌, ◌+◌, ◌<◌, ◌≤◌, true, List, [], ◌∷◌, length, Option, None, Some, Ok}
use Rattle.ti_caps.specs.Entry.{Content, string_at}
use Rattle.ti_conforms.specs.Charsets.{IsAmong}
use Rattle.ti_conforms.specs.Entries.{EntrySends, acsc, is_checked, string_of}
use Rattle.ti_lines.specs.declared.row_lines.RowLine.{RowLine}
use Rattle.ti_lines.specs.RowLines.{line_text}
use Rattle.ti_rows.specs.Names.{order}
use Rattle.ti_rows.specs.declared.rows.Row.{Row}
use Rattle.ti_cert.specs.Audits.{IsWholeRead, Stands}
use Rattle.ti_cert.specs.Certificates.{Ended, IsAnswer}
use Rattle.ti_cert.specs.Order.{IsComplete}
use Rattle.ti_cert.specs.Strings.{has_group}
use Rattle.ti_cert.specs.Table.{CheckedTable}
use Rattle.ti_cert.specs.Texts.{IsTableOf, StandsNext}
use Rattle.ti_cert.specs.declared.audits.Progress.{Progress}
use Rattle.ti_cert.specs.declared.certification.Draft.{Draft}

-- an audit of this text would make the table
pub record HasText (rows cols : ℕ) (table : CheckedTable) : Type 0 where
  pub text : List ℕ
  pub is : IsTableOf rows cols text table

-- ---- (Serves the code alone.) The lines that were judged so far, and a bound on their text.

-- the number of bytes of the text of these lines, each with its LF
abbrev pub text_bytes : List RowLine → ℕ
text_bytes [] = 0
text_bytes (line ∷ lines) = length (line_text line) + 1 + text_bytes lines

-- each of these lines may follow those before it, the latest first
abbrev pub Follow : ℕ → ℕ → List RowLine → Type 0
Follow rows cols [] = Unit {0}
Follow rows cols (line ∷ lines) = StandsNext rows cols lines line × Follow rows cols lines

-- the most bytes that the lines about capabilities may have
abbrev pub most : ℕ
most = 60000000

-- the most bytes that pairs of alternate characters may have
abbrev pub most_pairs : ℕ
most_pairs = 1000000

abbrev pub ArePairsShort : Option (List ℕ) → Type 0
ArePairsShort None = Unit {0}
ArePairsShort (Some pairs) = length pairs ≤ most_pairs

-- the row is checked, and the entry's string sends these bytes for it
pub record IsSent (entry : Content) (row : Row) (bytes : List ℕ) : Type 0 where
  pub checked : is_checked entry row ≡ true
  pub sends : EntrySends entry (Some bytes) row

-- each of these lines is one that the entry sends
abbrev pub AreSent : Content → List RowLine → Type 0
AreSent entry lines = (line : RowLine) → IsAmong lines line → IsSent entry line.row line.bytes

-- each checked capability of the entry that comes before this place in the order of names has lines
abbrev pub HasCaps : Content → ℕ → Progress → Type 0
HasCaps entry n p = (row : Row) → order row < n → is_checked entry row ≡ true → has_group p.known.strings row ≡ true

-- the draft has these lines of the entry for a size, with all capabilities before this place, and room for this much
-- text
pub record IsDraft (rows cols : ℕ) (entry : Content) (n : ℕ) (d : Draft) : Type 0 where
  pub lines : List RowLine
  pub stands : Stands d.progress lines
  pub rows_are : d.progress.size.rows ≡ rows
  pub cols_are : d.progress.size.cols ≡ cols
  pub pairs_are : d.progress.acsc ≡ string_at entry acsc
  pub short : ArePairsShort (string_at entry acsc)
  pub follow : Follow rows cols lines
  pub few : text_bytes lines + d.room ≤ most
  pub sent : AreSent entry lines
  pub caps : HasCaps entry n d.progress

-- the row's capability has lines too
pub record IsDraftWith (rows cols : ℕ) (entry : Content) (n : ℕ) (row : Row) (d : Draft) : Type 0 where
  pub draft : IsDraft rows cols entry n d
  pub has : has_group d.progress.known.strings row ≡ true

-- a line with these bytes is judged, whatever lines the draft has of an entry that sends it
abbrev pub AddsLine : Row → List ℕ → Draft → Draft → Type 0
AddsLine row bytes old new = (rows cols : ℕ) (entry : Content) (n : ℕ) → IsSent entry row bytes
    → IsDraft rows cols entry n old → IsDraftWith rows cols entry n row new

-- lines that the string sends are judged, whatever lines the draft has of an entry with this string
abbrev pub AddsSent : List ℕ → Row → Draft → Draft → Type 0
AddsSent string row old new =
    (rows cols : ℕ) (entry : Content) (n : ℕ) → string_of entry row ≡ Some string → is_checked entry row ≡ true
    → IsDraft rows cols entry n old → IsDraftWith rows cols entry n row new

-- the lines of the entry's capabilities from one place up to another are judged
abbrev pub AddsCaps : Content → ℕ → ℕ → Draft → Draft → Type 0
AddsCaps entry from to old new =
    (rows cols : ℕ) → IsDraft rows cols entry from old → IsDraft rows cols entry to new

-- the text of the line fits into the room
pub record TakesRoom (line : RowLine) (old new : Draft) : Type 0 where
  pub same : new.progress ≡ old.progress
  pub taken : new.room + (length (line_text line) + 1) ≤ old.room

-- all lines of the entry are judged, with the last one
pub record IsFinished (rows cols : ℕ) (entry : Content) (p : Progress) : Type 0 where
  pub whole : IsWholeRead p
  pub stands : Stands p whole.lines
  pub rows_are : p.size.rows ≡ rows
  pub cols_are : p.size.cols ≡ cols
  pub pairs_are : p.acsc ≡ string_at entry acsc
  pub sent : AreSent entry whole.lines
  pub caps : (row : Row) → is_checked entry row ≡ true → has_group p.known.strings row ≡ true
  pub complete : IsComplete rows cols whole.lines None
  pub text : List ℕ
  pub says : IsAnswer rows cols text (Ok (Ended (string_at entry acsc) whole.lines))
