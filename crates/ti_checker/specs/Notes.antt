-- The notes on an entry: the sequences of its strings that the terminal ignores.
use Rattle.std.specs.Prelude.{ℕ, ◌≡◌, true, false, List, [], ◌∷◌, ◌++◌, map, filter, take, Some, None, Err}
use Rattle.ti_caps.specs.Entry.{Content}
use Rattle.ti_parm.specs.Meaning.{meaning}
use Rattle.ti_parm.specs.Value.{zeros}
use Rattle.vt_term.specs.Text.{Splits, IsStuck, IsUnfinished}
use Rattle.ti_rows.specs.declared.rows.Row.{Row}
use Rattle.ti_rows.specs.Names.{cap_of, first_in_order, firsts}
use Rattle.ti_rows.specs.Params.{params}
use Rattle.ti_conforms.specs.Sends.{Sends, ReadsStatic, values}
use Rattle.ti_conforms.specs.Entries.{is_checked, string_of}
use Rattle.vt_states.specs.Ignored.{is_ignored}
use Rattle.ti_checker.specs.No.{SendsSome}
use Rattle.ti_checker.specs.declared.note_list.CheckNote.{CheckNote}
use Rattle.ti_checker.specs.declared.causes.Cause.{Cause}
use Rattle.ti_checker.specs.declared.causes.Cause.TheVariants.{Parm, StaticRead, Unfinished, Stuck, NoMemory}
use Rattle.ti_checker.specs.declared.causes.No.{No}

-- ---- the notes

-- the string sends bytes for the row that are exactly these whole tokens
pub record SendsTokens (string : List ℕ) (row : Row) (tokens : List (List ℕ)) : Type 0 where
  pub bytes : List ℕ
  pub sends : Sends string row bytes
  pub splits : Splits bytes tokens []

abbrev pub note_of : ℕ → List ℕ → CheckNote
note_of cap token = record { cap = cap; bytes = token }

-- a note for each ignored token, in their order
abbrev pub notes_of : ℕ → List (List ℕ) → List CheckNote
notes_of cap tokens = map (note_of cap) (filter is_ignored tokens)

-- the notes on the entry's string for a row
pub record StringNotes (entry : Content) (row : Row) (notes : List CheckNote) : Type 0 where
  pub string : List ℕ
  pub there : string_of entry row ≡ Some string
  pub tokens : List (List ℕ)
  pub sends : SendsTokens string row tokens
  pub ignored : notes ≡ notes_of (cap_of row) tokens

-- the notes on a row: none if the entry doesn't have the capability, or if it isn't checked
pub record RowNotes (entry : Content) (row : Row) (notes : List CheckNote) : Type 0 where
  pub checked : is_checked entry row ≡ true → StringNotes entry row notes
  pub unchecked : is_checked entry row ≡ false → notes ≡ []

-- the notes on these rows, one row after another
unfoldable pub RowsNotes : Content → List Row → List CheckNote → Type 0
RowsNotes entry [] notes = notes ≡ []
RowsNotes entry (row ∷ rows) notes =
    (own : List CheckNote) × (later : List CheckNote) × (notes ≡ own ++ later) × RowNotes entry row own
    × RowsNotes entry rows later

-- the notes on all checked capabilities in the byte order of their names, each for its first parameter list
abbrev pub EntryNotes : Content → List CheckNote → Type 0
EntryNotes entry notes = RowsNotes entry firsts notes

-- ---- strings that send no whole tokens

-- the string can't be expanded for the row, reads a static variable first, or sends no whole tokens
abbrev pub SendsNoTokens : List ℕ → Row → Cause → Type 0
SendsNoTokens string row (Parm fault) = meaning string (values row) zeros ≡ Err fault
SendsNoTokens string row StaticRead = ReadsStatic string row
SendsNoTokens string row Unfinished = SendsSome string row (λ bytes. (at : ℕ) × IsUnfinished bytes at)
SendsNoTokens string row Stuck = SendsSome string row (λ bytes. (at : ℕ) × IsStuck bytes at)
SendsNoTokens string row NoMemory = Unit {0}
SendsNoTokens string row _ = ⊥

-- the refusal names the checked capability at this place in the order of names, whose string sends no whole tokens for
-- its first parameter list
pub record IsUnsentAt (entry : Content) (place : ℕ) (refusal : No) : Type 0 where
  pub row : Row
  pub is_first : first_in_order place ≡ Some row
  pub cap_is : refusal.cap ≡ cap_of row
  pub params_are : refusal.params.items ≡ params row
  pub checked : is_checked entry row ≡ true
  pub string : List ℕ
  pub there : string_of entry row ≡ Some string
  pub unsent : SendsNoTokens string row refusal.cause

-- the refusal names the first such capability: all before it have their notes
pub record IsFirstUnsent (entry : Content) (refusal : No) : Type 0 where
  pub place : ℕ
  pub unsent : IsUnsentAt entry place refusal
  pub earlier : List CheckNote
  pub noted : RowsNotes entry (take place firsts) earlier

-- ---- (Serves the code alone.) notes that are added to others

pub record AddsStringNotes (string : List ℕ) (row : Row) (old new : List CheckNote) : Type 0 where
  pub tokens : List (List ℕ)
  pub sends : SendsTokens string row tokens
  pub added : new ≡ old ++ notes_of (cap_of row) tokens

pub record AddsRowNotes (entry : Content) (row : Row) (old new : List CheckNote) : Type 0 where
  pub own : List CheckNote
  pub added : new ≡ old ++ own
  pub noted : RowNotes entry row own

pub record AddsNotesAt (entry : Content) (place : ℕ) (old new : List CheckNote) : Type 0 where
  pub some : (row : Row) → first_in_order place ≡ Some row → AddsRowNotes entry row old new
  pub none : first_in_order place ≡ None → new ≡ old
