-- The character set that the strings of an entry leave active, all of them together (terminfo(5), "Line Graphics";
-- VT100 user guide, "Select character set").
use Rattle.std.specs.Prelude.{ℕ, ◌<◌, ◌≡◌, ◌⊎◌, Bool, true, List, [], Option, Some}
use Rattle.vt_term.specs.Size.{IsSize}
use Rattle.vt_term.specs.Screen.{Screen, Charset}
use Rattle.vt_term.specs.Run.{Runs}
use Rattle.vt_term.specs.Text.{Splits}
use Rattle.vt_effects.specs.declared.effects.Sets.{Sets}
use Rattle.vt_effects.specs.Effect.{designated}
use Rattle.ti_caps.specs.Entry.{Content}
use Rattle.ti_conforms.specs.declared.reach.Reach.{Reach}
use Rattle.ti_conforms.specs.Charsets.{IsAmong, charset_over, joined, reach_of}
use Rattle.ti_rows.specs.declared.rows.Row.{Row}
use Rattle.ti_rows.specs.Lists.{IsInRange, rank}
use Rattle.ti_rows.specs.Names.{order}
use Rattle.ti_rows.specs.Starts.{Starts}
use Rattle.ti_conforms.specs.Sends.{Sends}
use Rattle.ti_conforms.specs.Entries.{string_of, EntryAgrees}
use Rattle.ti_conforms.specs.Table.{Table, settles, Activates}
use Rattle.ti_conforms.specs.Sets.{Occurs}
use Rattle.ti_cert.specs.Known.{with_change}
use Rattle.ti_cert.specs.Seen.{IsOfLine, ChangesBy}
use Rattle.ti_checker.specs.Kept.{is_sent, HasKept, OfAllKept}
use Rattle.ti_checker.specs.Probes.{screen_of}
use Rattle.ti_checker.specs.declared.probes.Probe.{Probe}

-- the table has exactly what the entry sends for the checked rows of a size
pub record HasSent (entry : Content) (rows cols : ℕ) (t : Table) : Type 0 where
  pub size : IsSize rows cols
  pub rows_are : t.rows ≡ rows
  pub sends : EntryAgrees rows cols entry t.line_of
  pub only : (row : Row) (bytes : List ℕ) → t.line_of row ≡ Some bytes → IsInRange rows cols row

-- `Is` holds of some table with exactly what the entry sends
pub record OfSent (entry : Content) (rows cols : ℕ) (Is : Table → Type 0) : Type 0 where
  pub table : Table
  pub has : HasSent entry rows cols table
  pub is : Is table

-- `Is` holds of each table with exactly what the entry sends
abbrev pub OfAllSent : Content → ℕ → ℕ → (Table → Type 0) → Type 0
OfAllSent entry rows cols Is = (t : Table) → HasSent entry rows cols t → Is t

-- The probe is a start of the row, and the run of the row's bytes from it ends with the wrong set active: not the one
-- that the row, `smacs` or `rmacs`, must activate.
pub record RunsWrong (rows cols : ℕ) (row : Row) (p : Probe) (t : Table) : Type 0 where
  pub bytes : List ℕ
  pub there : t.line_of row ≡ Some bytes
  pub starts : Starts rows cols row (screen_of rows cols p)
  pub after : Screen
  pub runs : Runs (record { screen = screen_of rows cols p; rest = [] }) bytes (record { screen = after; rest = [] })
  pub inactive : Activates row after.charset → ⊥

-- ---- (Serves the code alone.) Facts seen of the strings.

-- the tokens that a string sends for a row, and the charset to which they lead from each charset
pub record IsChange (string : List ℕ) (row : Row) (tokens : List (List ℕ)) (change : Sets) : Type 0 where
  pub bytes : List ℕ
  pub sends : Sends string row bytes
  pub whole : Splits bytes tokens []
  pub leads : (c : Charset) → charset_over tokens c ≡ designated change c

-- these are the tokens and the change of the entry's string for a checked row of a kept capability
pub record IsChangeOf (entry : Content) (kept : ℕ → Bool) (row : Row) (tokens : List (List ℕ)) (change : Sets)
    : Type 0 where
  pub sent : is_sent entry kept row ≡ true
  pub string : List ℕ
  pub there : string_of entry row ≡ Some string
  pub is : IsChange string row tokens change

-- rows of capabilities before the one at this place, and rows of that one before this rank
abbrev pub IsBefore : ℕ → ℕ → ℕ → ℕ → Row → Type 0
IsBefore rows cols n k row = (order row < n) ⊎ ((order row ≡ n) × (rank rows cols row < k))

-- the tokens of the row's string are among these, and so is its change if the row leaves settled charsets settled
pub record IsCounted (entry : Content) (kept : ℕ → Bool) (all : List (List ℕ)) (changes : List Sets) (row : Row)
    : Type 0 where
  pub tokens : List (List ℕ)
  pub change : Sets
  pub of_row : IsChangeOf entry kept row tokens change
  pub reached : (token : List ℕ) → IsAmong tokens token → IsAmong all token
  pub settled : settles row ≡ true → IsAmong changes change

-- facts seen of the strings of the kept capabilities for the rows so far: the marks that their tokens turn on, and the
-- changes by those strings that leave settled charsets settled
pub record IsSeen (entry : Content) (rows cols : ℕ) (kept : ℕ → Bool) (reach : Reach) (changes : List Sets)
    (n k : ℕ) : Type 0 where
  pub tokens : List (List ℕ)
  pub reach_is : reach ≡ reach_of tokens
  pub occurs : (t : Table) → HasKept entry rows cols kept t → (token : List ℕ) → IsAmong tokens token → Occurs t token
  pub told : (t : Table) → HasKept entry rows cols kept t → (change : Sets) → IsAmong changes change
      → IsOfLine t change
  pub counted : (row : Row) → IsInRange rows cols row → is_sent entry kept row ≡ true → IsBefore rows cols n k row
      → IsCounted entry kept tokens changes row

-- the facts after those of the bytes that a string sends for a row are added
pub record IsSeenToo (string : List ℕ) (row : Row) (old : Reach) (before : List Sets) (new : Reach)
    (after : List Sets) : Type 0 where
  pub tokens : List (List ℕ)
  pub change : Sets
  pub is : IsChange string row tokens change
  pub reach_is : new ≡ joined old (reach_of tokens)
  pub changes_are : after ≡ with_change (settles row) before change

-- the change by the row's line, `None` if there is no line, in each table of the kept capabilities
abbrev pub RowChanges : Content → ℕ → ℕ → (ℕ → Bool) → Row → Option Sets → Type 0
RowChanges entry rows cols kept row change = OfAllKept entry rows cols kept (λ t. ChangesBy t row change)
