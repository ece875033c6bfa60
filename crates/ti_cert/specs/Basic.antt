-- The plainest entries: the cursor goes to a place, cells are erased and the rendition becomes plain, each by one
-- string of ECMA-48; and the text of their certificate.
use Rattle.std.specs.Prelude.{ℕ, ◌≡◌, ◌⊎◌, Bool, true, false, if◌then◌else◌, List, [], ◌∷◌, ◌++◌, map, reverse, None}
use Rattle.std.specs.Prelude.{Some, Ok}
use Rattle.std.specs.List.{flat_map, range_with_len}
use Rattle.vt_term.specs.Moves.{cursor_to}
use Rattle.vt_term.specs.Size.{IsSize}
use Rattle.vt_effects.specs.declared.effects.Effect.{Effect}
use Rattle.vt_effects.specs.Effect.{unchanged}
use Rattle.vt_effects.specs.Basic.{clear_text, home_text, el_text, sgr0_text, cleared, placed_at, tail_erased}
use Rattle.vt_effects.specs.Basic.{made_plain}
use Rattle.ti_caps.specs.Entry.{Content, string_at}
use Rattle.ti_rows.specs.declared.rows.Row.{Row}
use Rattle.ti_rows.specs.declared.rows.Row.TheVariants.{Clear, Cup, Home, El, Sgr0}
use Rattle.ti_rows.specs.Lists.{IsInRange}
use Rattle.ti_conforms.specs.Sends.{Sends}
use Rattle.ti_conforms.specs.Entries.{acsc, has_string, is_checked, string_of, EntryAgrees}
use Rattle.ti_conforms.specs.Conforms.{IsFit}
use Rattle.ti_lines.specs.declared.row_lines.RowLine.{RowLine}
use Rattle.ti_lines.specs.Texts.{line_texts, ended}
use Rattle.ti_conforms.specs.Charsets.{IsAmong}
use Rattle.ti_cert.specs.Order.{HasLine}
use Rattle.ti_cert.specs.Strings.{row_string}
use Rattle.ti_cert.specs.Table as tables
use Rattle.ti_cert.specs.Certificates.{Ended, IsAnswer, CertFault}
use Rattle.ti_cert.specs.Texts.{IsTableOf}
use Rattle.ti_cert.specs.declared.faults.CertFaultKind.TheVariants.{NoMemory, ReadFailed}
use Rattle.ti_cert.specs.declared.faults.AgreeFault.TheVariants as agreeing
use Rattle.ti_cert.specs.declared.faults.VerifyFault.{VerifyFault}
use Rattle.ti_cert.specs.declared.faults.VerifyFault.TheVariants.{Cert, Agree}

-- the bytes that such an entry sends for a row (ECMA-48 8.3.21, CUP; 8.3.39, ED; 8.3.41, EL; 8.3.117, SGR)
abbrev pub basic_bytes : Row → List ℕ
basic_bytes Clear = clear_text
basic_bytes (Cup row col) = cursor_to row col
basic_bytes Home = home_text
basic_bytes El = el_text
basic_bytes Sgr0 = sgr0_text
basic_bytes _ = []

-- their effects: row=0 col=0 nopend all; row=r col=c nopend; row=0 col=0 nopend; tail; look:000000 ink:dd
abbrev pub basic_effect : Row → Effect
basic_effect Clear = cleared
basic_effect (Cup row col) = placed_at row col
basic_effect Home = placed_at 0 0
basic_effect El = tail_erased
basic_effect Sgr0 = made_plain
basic_effect _ = unchanged

abbrev pub basic_line : Row → RowLine
basic_line row = record { row = row; bytes = basic_bytes row; effect = basic_effect row }

-- `clear`, `cup` and `sgr0`, and perhaps `home` and `el`
abbrev pub is_basic : Bool → Bool → Row → Bool
is_basic home el Clear = true
is_basic home el (Cup row col) = true
is_basic home el Home = home
is_basic home el El = el
is_basic home el Sgr0 = true
is_basic home el _ = false

-- An entry is basic at a size: it is fit and has no alternate characters; of its capabilities only `clear`, `cup`,
-- `home`, `el` and `sgr0` are checked; and for each parameter list in range a string has no fault, reads no static
-- variable that it didn't set before, and sends exactly the row's basic bytes.
pub record IsBasic (entry : Content) (rows cols : ℕ) : Type 0 where
  pub fit : IsFit entry
  pub no_pairs : string_at entry acsc ≡ None
  pub only : (row : Row) → is_checked entry row ≡ true → is_basic true true row ≡ true
  pub sends : (row : Row) → IsInRange rows cols row → is_checked entry row ≡ true → (string : List ℕ)
      → string_of entry row ≡ Some string → Sends string row (basic_bytes row)

-- every place of the screen, line by line
abbrev pub places : ℕ → ℕ → List Row
places rows cols = flat_map (λ row. map (λ col. Cup row col) (range_with_len 0 cols)) (range_with_len 0 rows)

abbrev pub only_if : Bool → Row → List Row
only_if there row = if there then row ∷ [] else []

-- the rows of a basic certificate in the order of its lines
abbrev pub basic_rows : ℕ → ℕ → Bool → Bool → List Row
basic_rows rows cols home el = Clear ∷ (places rows cols ++ (only_if el El ++ (only_if home Home ++ Sgr0 ∷ [])))

unfoldable pub basic_text : ℕ → ℕ → Bool → Bool → List ℕ
basic_text rows cols home el = ended (line_texts
    (record { rows = rows; cols = cols; acsc = None; lines = map basic_line (basic_rows rows cols home el) }))

-- the basic text of an entry
abbrev pub basic_text_of : Content → ℕ → ℕ → List ℕ
basic_text_of entry rows cols = basic_text rows cols (has_string entry Home) (has_string entry El)

-- a basic text is accepted, with exactly its lines, the latest first
abbrev pub BasicAccepted : Type 0
BasicAccepted =
    (rows cols : ℕ) (home el : Bool) → IsSize rows cols → IsAnswer rows cols (basic_text rows cols home el)
    (Ok (Ended None (reverse (map basic_line (basic_rows rows cols home el)))))

-- the text isn't at fault: memory ran out, or the reader failed
abbrev pub IsStopped : Type 0 → CertFault → Type 0
IsStopped Failed fault = (fault.kind ≡ NoMemory) ⊎ ((fault.kind ≡ ReadFailed) × Failed)

abbrev pub IsVerifyStopped : Type 0 → VerifyFault → Type 0
IsVerifyStopped Failed (Cert fault) = IsStopped Failed fault
IsVerifyStopped Failed (Agree fault) = fault ≡ agreeing.NoMemory

-- the table of a basic entry's text
pub record IsBasicTable (entry : Content) (table : tables.CheckedTable) : Type 0 where
  pub size : IsSize table.known.strings.rows table.known.strings.cols
  pub basic : IsBasic entry table.known.strings.rows table.known.strings.cols
  pub made : IsTableOf table.known.strings.rows table.known.strings.cols
      (basic_text_of entry table.known.strings.rows table.known.strings.cols) table

-- the table has exactly what the entry sends
pub record IsTableFor (entry : Content) (table : tables.CheckedTable) : Type 0 where
  pub fit : IsFit entry
  pub pairs : table.acsc ≡ string_at entry acsc
  pub agrees : EntryAgrees table.known.strings.rows table.known.strings.cols entry
      (λ row. row_string table.known.strings row)

abbrev pub BasicAgrees : Type 0
BasicAgrees = (entry : Content) (table : tables.CheckedTable) → IsBasicTable entry table → IsTableFor entry table

-- the entry sends exactly these lines
pub record AreSent (entry : Content) (rows cols : ℕ) (lines : List RowLine) : Type 0 where
  pub range : (line : RowLine) → IsAmong lines line → IsInRange rows cols line.row
  pub checked : (line : RowLine) → IsAmong lines line → is_checked entry line.row ≡ true
  pub sends : (line : RowLine) → IsAmong lines line → (string : List ℕ) → string_of entry line.row ≡ Some string
      → Sends string line.row line.bytes
  pub all : (row : Row) → IsInRange rows cols row → is_checked entry row ≡ true → HasLine lines row

-- a text that is accepted with exactly these lines is the basic text
abbrev pub BasicAlone : Type 0
BasicAlone =
    (entry : Content) (rows cols : ℕ) (text : List ℕ) (lines : List RowLine) → IsSize rows cols
    → IsBasic entry rows cols → IsAnswer rows cols text (Ok (Ended None lines)) → AreSent entry rows cols lines
    → text ≡ basic_text_of entry rows cols
