-- The cases in which a certificate isn't that of an entry.
use Rattle.std.specs.Prelude.{ℕ, ◌≡◌, List, []}
use Rattle.ti_caps.specs.Entry as caps
use Rattle.ti_caps.specs.Entry.{string_at}
use Rattle.ti_rows.specs.declared.rows.Row.{Row}
use Rattle.ti_rows.specs.Lists.{IsInRange}
use Rattle.ti_rows.specs.Names.{cap_of}
use Rattle.ti_rows.specs.Params.{params}
use Rattle.ti_conforms.specs.Entries.{acsc, LineAgrees, EntryAgrees}
use Rattle.ti_conforms.specs.Conforms.{IsFit}
use Rattle.ti_cert.specs.Strings.{row_string}
use Rattle.ti_cert.specs.Table.{CheckedTable}
use Rattle.ti_cert.specs.Texts.{IsTableOf}
use Rattle.ti_conforms.specs.Unfit.{IsUnfit, cap_of_unfit}
use Rattle.ti_conforms.specs.declared.fitness.Unfit.{Unfit}
use Rattle.ti_cert.specs.declared.faults.AgreeFault.{AgreeFault}
use Rattle.ti_cert.specs.declared.faults.AgreeFault.TheVariants.{Disagree, NoMemory}
use Rattle.ti_cert.specs.declared.faults.VerifyFault.{VerifyFault}
use Rattle.ti_cert.specs.declared.faults.VerifyFault.TheVariants.{Cert, Agree}

-- The line of this capability and these parameters, which the size allows, isn't exactly what the entry sends: it has
-- other bytes, or is missing, or is there though the capability isn't checked.
pub record HasOtherLine (table : CheckedTable) (entry : caps.Content) (cap : ℕ) (numbers : List ℕ) : Type 0 where
  pub row : Row
  pub cap_is : cap ≡ cap_of row
  pub params_are : numbers ≡ params row
  pub range : IsInRange table.known.strings.rows table.known.strings.cols row
  pub differs : LineAgrees entry (row_string table.known.strings row) row → ⊥

-- The order of reports: first the reason why the entry as a whole can have no certificate, by the capability of the
-- first such reason; then other pairs of alternate characters; both without parameters. Then a line.
pub data IsDisagreement (table : CheckedTable) (entry : caps.Content) (cap : ℕ) (numbers : List ℕ) : Type 0 where
  RuledOut : (why : Unfit) → IsUnfit entry why → cap ≡ cap_of_unfit why → numbers ≡ []
      → IsDisagreement table entry cap numbers
  OtherPairs : IsFit entry → cap ≡ acsc → (table.acsc ≡ string_at entry acsc → ⊥) → numbers ≡ []
      → IsDisagreement table entry cap numbers
  OtherLine : IsFit entry → table.acsc ≡ string_at entry acsc → HasOtherLine table entry cap numbers
      → IsDisagreement table entry cap numbers

-- running out of memory claims nothing
abbrev pub IsDisagreeing : CheckedTable → caps.Content → AgreeFault → Type 0
IsDisagreeing table entry (Disagree cap numbers) = IsDisagreement table entry cap numbers.items
IsDisagreeing table entry NoMemory = Unit {0}

-- the table of a text has this disagreement
pub record TextDisagrees (rows cols : ℕ) (text : List ℕ) (entry : caps.Content) (fault : AgreeFault) : Type 0 where
  pub table : CheckedTable
  pub rows_are : table.known.strings.rows ≡ rows
  pub cols_are : table.known.strings.cols ≡ cols
  pub made : IsTableOf rows cols text table
  pub disagrees : IsDisagreeing table entry fault

-- a refusal to verify, although the certificate itself has no fault
abbrev pub IsAgreeRefused : ℕ → ℕ → List ℕ → caps.Content → VerifyFault → Type 0
IsAgreeRefused rows cols text entry (Cert fault) = Unit {0}
IsAgreeRefused rows cols text entry (Agree fault) = TextDisagrees rows cols text entry fault

-- If a disagreement is true, the certificate isn't that of the entry.
abbrev pub DisagreementExcludesYes : Type 0
DisagreementExcludesYes =
    (table : CheckedTable) (entry : caps.Content) (cap : ℕ) (numbers : List ℕ) → IsDisagreement table entry cap numbers
    → IsFit entry → table.acsc ≡ string_at entry acsc
    → EntryAgrees table.known.strings.rows table.known.strings.cols entry (λ row. row_string table.known.strings row)
    → ⊥

-- ---- (Serves the code alone.) A disagreement about a capability as a whole, and at a row.
abbrev pub IsAtCap : ℕ → AgreeFault → Type 0
IsAtCap named (Disagree cap numbers) = (cap ≡ named) × (numbers.items ≡ [])
IsAtCap named NoMemory = ⊥

abbrev pub IsAtRow : Row → AgreeFault → Type 0
IsAtRow row (Disagree cap numbers) = (cap ≡ cap_of row) × (numbers.items ≡ params row)
IsAtRow row NoMemory = ⊥
