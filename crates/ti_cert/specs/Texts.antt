-- The meaning of an audit's answer for the text of a certificate.
use Rattle.std.specs.Prelude.{ℕ, ◌+◌, ◌≤◌, ◌≡◌, ◌⊎◌, ◌↔◌, List, [], ◌∷◌, length, reverse, is_some, Option, None, Some}
use Rattle.std.specs.Prelude.{Result, Ok, Err}
use Rattle.ti_conforms.specs.Charsets.{IsAmong}
use Rattle.ti_rows.specs.declared.rows.Row.{Row}
use Rattle.ti_lines.specs.declared.row_lines.RowLine.{RowLine}
use Rattle.ti_lines.specs.Texts.{IsCertificateText}
use Rattle.ti_lines.specs.Reader.{Gave}
use Rattle.ti_lines.specs.Text.{cut_of}
use Rattle.ti_lines.specs.Judgements.{LastCall}
use Rattle.ti_cert.specs.Strings.{row_string}
use Rattle.ti_cert.specs.Table.{CheckedTable}
use Rattle.ti_cert.specs.Clashes.{GoesTogether, OfLines}
use Rattle.ti_cert.specs.Order.{GivesBytes, IsComplete, IsInPlace}
use Rattle.ti_cert.specs.Certificates.{Said, Ended, HasEffect, IsAskedFor, IsAnswer, limit, CertFault}
use Rattle.ti_cert.specs.declared.faults.CertFaultKind.TheVariants.{NoMemory, ReadFailed}
use Rattle.ti_cert.specs.declared.faults.VerifyFault.{VerifyFault}
use Rattle.ti_cert.specs.declared.faults.VerifyFault.TheVariants.{Cert, Agree}

-- the text is that of a certificate for this size, and the table has exactly the pairs and the bytes of its lines
pub record IsTableOf (rows cols : ℕ) (text : List ℕ) (table : CheckedTable) : Type 0 where
  pub lines : List RowLine
  pub says : IsAnswer rows cols text (Ok (Ended table.acsc lines))
  pub found : (row : Row) (bytes : List ℕ) → row_string table.known.strings row ≡ Some bytes
      → GivesBytes lines row bytes
  pub kept : (line : RowLine) → IsAmong lines line → row_string table.known.strings line.row ≡ Some line.bytes

-- the text's first fault, at its line; or memory ran out, or the reader failed
abbrev pub IsRefused : ℕ → ℕ → List ℕ → Type 0 → CertFault → Type 0
IsRefused rows cols text Failed fault =
    IsAnswer rows cols text (Err fault)
    ⊎ ((fault.kind ≡ NoMemory) ⊎ ((fault.kind ≡ ReadFailed) × Failed))

-- a refusal to verify because of the certificate
abbrev pub IsCertRefused : ℕ → ℕ → List ℕ → Type 0 → VerifyFault → Type 0
IsCertRefused rows cols text Failed (Cert fault) = IsRefused rows cols text Failed fault
IsCertRefused rows cols text Failed (Agree fault) = Unit {0}

-- A reader that failed did so in the line after the whole lines that it gave. Once the line with the fault is whole,
-- the reader isn't called.
pub record IsLineRead (given : List ℕ) (fault : CertFault) : Type 0 where
  pub failed : fault.kind ≡ ReadFailed → fault.line ≡ length (cut_of given).lines + 1
  pub last : LastCall given fault.line

abbrev pub IsCertLineRead : List ℕ → VerifyFault → Type 0
IsCertLineRead given (Cert fault) = IsLineRead given fault
IsCertLineRead given (Agree fault) = Unit {0}

-- A call takes at most one byte more from its reader than a certificate may have; and `IsSo` holds of the bytes that
-- were given.
pub record Takes {R : Type 0} (left : R → List ℕ → Type 0) (failures : R → ℕ) (old new : R)
    (IsSo : List ℕ → Type 0) : Type 0 where
  pub given : List ℕ
  pub gave : Gave left failures old new given
  pub few : length given ≤ limit + 1
  pub reading : IsSo given

-- No text has two answers.
abbrev pub OneAnswer : Type 0
OneAnswer =
    (rows cols : ℕ) (text : List ℕ) (one other : Result Said CertFault) → IsAnswer rows cols text one
    → IsAnswer rows cols text other → one ≡ other

-- Tables of one text have the same pairs and the same strings.
abbrev pub OneTable : Type 0
OneTable =
    (rows cols : ℕ) (text : List ℕ) (one other : CheckedTable) → IsTableOf rows cols text one
    → IsTableOf rows cols text other
    → (one.acsc ≡ other.acsc) × ((row : Row) → row_string one.known.strings row ≡ row_string other.known.strings row)

-- A text that has a table is refused only if memory runs out.
abbrev pub NoOther : Type 0
NoOther =
    (rows cols : ℕ) (text : List ℕ) (table : CheckedTable) (fault : CertFault) → IsTableOf rows cols text table
    → IsRefused rows cols text ⊥ fault → fault.kind ≡ NoMemory

-- A text that has no table is always refused for the same fault in the same line.
abbrev pub OneFault : Type 0
OneFault =
    (rows cols : ℕ) (text : List ℕ) (one other : CertFault) → IsRefused rows cols text ⊥ one
    → IsRefused rows cols text ⊥ other → (one ≡ other) ⊎ ((one.kind ≡ NoMemory) ⊎ (other.kind ≡ NoMemory))

-- the line is in its place after those before it, and its bytes have its effect, which is the one that is asked for
pub record StandsNext (rows cols : ℕ) (before : List RowLine) (line : RowLine) : Type 0 where
  pub place : IsInPlace rows cols before line.row
  pub has : HasEffect rows cols line line.effect
  pub asked : IsAskedFor before line

-- Each of these lines about capabilities is in its place after those `before` it, which are listed with the latest
-- first; after the last of them nothing is missing.
abbrev pub StandInOrder : ℕ → ℕ → List RowLine → List RowLine → Type 0
StandInOrder rows cols before [] = IsComplete rows cols before None
StandInOrder rows cols before (line ∷ lines) =
    StandsNext rows cols before line × StandInOrder rows cols (line ∷ before) lines

-- the text of a certificate for this size, with these pairs and lines
pub record IsCertificate (rows cols : ℕ) (text : List ℕ) (pairs : Option (List ℕ)) (lines : List RowLine) : Type 0 where
  pub spelled : IsCertificateText text (record { rows = rows; cols = cols; acsc = pairs; lines = lines })
  pub stands : StandInOrder rows cols [] lines
  pub few : length text ≤ limit

-- The text of a certificate is accepted, with its pairs and lines, if all its lines go together.
abbrev pub IsAcceptedCertificate : Type 0
IsAcceptedCertificate =
    (rows cols : ℕ) (text : List ℕ) (pairs : Option (List ℕ)) (lines : List RowLine)
    → IsCertificate rows cols text pairs lines → OfLines rows cols (reverse lines) (λ t. GoesTogether (is_some pairs) t)
    → IsAnswer rows cols text (Ok (Ended pairs (reverse lines)))

-- the text of a certificate whose lines go together
pub record IsAcceptable (rows cols : ℕ) (text : List ℕ) (pairs : Option (List ℕ))
    (lines : List RowLine) : Type 0 where
  pub certificate : IsCertificate rows cols text pairs lines
  pub together : OfLines rows cols (reverse lines) (λ t. GoesTogether (is_some pairs) t)

-- A text is accepted, with these pairs and lines, exactly if it is that of a certificate whose lines go together.
abbrev pub AcceptsCertificates : Type 0
AcceptsCertificates =
    (rows cols : ℕ) (text : List ℕ) (pairs : Option (List ℕ)) (lines : List RowLine)
    → IsAnswer rows cols text (Ok (Ended pairs (reverse lines))) ↔ IsAcceptable rows cols text pairs lines

-- A text that is accepted is that of a certificate.
abbrev pub IsThatOfCertificate : Type 0
IsThatOfCertificate =
    (rows cols : ℕ) (text : List ℕ) (pairs : Option (List ℕ)) (lines : List RowLine)
    → IsAnswer rows cols text (Ok (Ended pairs lines)) → IsCertificate rows cols text pairs (reverse lines)
