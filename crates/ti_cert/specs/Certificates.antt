-- How the lines of a certificate are judged one after another: whether a line may follow those that were read, and
-- otherwise its first fault. Lines are listed with the latest first.
use Rattle.std.specs.Prelude.{ℕ, ◌≡◌, ◌==◌, ◌||◌, is_some, Bool, true, false, if◌then◌else◌, List, [], ◌∷◌, Option}
use Rattle.std.specs.Prelude.{None, Some, Result, Ok, Err}
use Rattle.vt_term.specs.Text.{Splits}
use Rattle.vt_effects.specs.declared.effects.Effect.{Effect}
use Rattle.vt_effects.specs.Record.{record_of}
use Rattle.ti_rows.specs.declared.rows.Looks.{Looks}
use Rattle.ti_rows.specs.declared.rows.Row.{Row}
use Rattle.ti_rows.specs.declared.rows.Row.TheVariants.{Sgr, Smso}
use Rattle.ti_rows.specs.Names.{order, cap_of, no_attributes}
use Rattle.ti_rows.specs.Params.{params}
use Rattle.ti_rows.specs.Lists.{IsInRange}
use Rattle.ti_rows.specs.Looks.{learned}
use Rattle.ti_rows.specs.Asked.{start_of, asked}
use Rattle.ti_lines.specs.declared.row_lines.RowLine.{RowLine}
use Rattle.ti_lines.specs.Heads.{IsSizeText, IsAcscText, is_end}
use Rattle.ti_lines.specs.RowLines.{IsTextOf}
use Rattle.ti_lines.specs.Judgements.{Rules, Judged}
use Rattle.ti_lines.specs.declared.judgements.LineFault.{LineFault}
use Rattle.ti_conforms.specs.Looks.{no_looks, is_alone, IsSomeLook}
use Rattle.ti_cert.specs.Clashes.{IsClash, GoesTogether, OfLines, kind_of}
use Rattle.ti_cert.specs.declared.clashes.Clash.{Clash}
use Rattle.ti_cert.specs.Order.{IsFirstLacking, IsComplete, IsLate, IsBehind, IsInPlace}
use Rattle.ti_cert.specs.declared.faults.CertFaultKind.{CertFaultKind}
use Rattle.ti_cert.specs.declared.faults.CertFaultKind.TheVariants.{BadLine, Missing, OutOfOrder, NotWhole, NotTame}
use Rattle.ti_cert.specs.declared.faults.CertFaultKind.TheVariants.{NotShown, BadLook, NoMemory, ReadFailed}

-- the fault of a row's missing line, by its capability and its parameters
abbrev pub missing_line : Row → CertFaultKind
missing_line row = Missing (cap_of row) (record { items = params row })

-- The meaning of the lines so far: nothing, the size alone, or also the pairs of alternate characters, if there are
-- any, and lines about capabilities, with the last line or before it.
pub data Said : Type 0 where
  Nothing : Said
  Sized : Said
  Listing : Option (List ℕ) → List RowLine → Said
  Ended : Option (List ℕ) → List RowLine → Said

-- whether one of the lines is about the row's capability
abbrev pub speaks_of : List RowLine → Row → Bool
speaks_of [] row = false
speaks_of (line ∷ lines) row = order row == order line.row || speaks_of lines row

-- looks come from `sgr`, or else from the strings of single attributes
abbrev pub rival : Row → Row
rival (Sgr a) = Smso
rival _ = Sgr no_attributes

-- the looks of attributes by these lines: by those of `sgr` for one attribute alone, or else by those of single
-- attributes
abbrev pub looks_of : List RowLine → Looks
looks_of [] = no_looks
looks_of (line ∷ lines) =
    if speaks_of lines (rival line.row) then looks_of lines else learned line.row line.effect (looks_of lines)

-- the bytes are whole control functions
pub record IsWholeText (bytes : List ℕ) : Type 0 where
  pub tokens : List (List ℕ)
  pub splits : Splits bytes tokens []

-- from the row's start the line's bytes have this record
pub record HasEffect (rows cols : ℕ) (line : RowLine) (effect : Effect) : Type 0 where
  pub tokens : List (List ℕ)
  pub splits : Splits line.bytes tokens []
  pub recorded : record_of rows cols (start_of rows cols line.row) tokens ≡ Some effect

-- the line's bytes are whole control functions without a record
pub record HasNoEffect (rows cols : ℕ) (line : RowLine) : Type 0 where
  pub tokens : List (List ℕ)
  pub splits : Splits line.bytes tokens []
  pub unrecorded : record_of rows cols (start_of rows cols line.row) tokens ≡ None

-- the fault of a line whose effect isn't the one that is asked for: an attribute alone that looks like another, or any
-- other fault
pub data IsMisfit (row : Row) (effect : Effect) (kind : CertFaultKind) : Type 0 where
  Mislooks : is_alone row ≡ true → IsSomeLook effect → kind ≡ BadLook → IsMisfit row effect kind
  Misdoes : (is_alone row ≡ true → IsSomeLook effect → ⊥) → kind ≡ NotShown → IsMisfit row effect kind

abbrev pub IsAskedFor : List RowLine → RowLine → Type 0
IsAskedFor lines line = line.effect ≡ asked (looks_of (line ∷ lines)) line.row line.effect

-- A line about a capability after these lines, by cases in the order in which faults are reported.
pub data JudgesRow (rows cols : ℕ) (lines : List RowLine) (line : RowLine) (after : Said)
    (answer : Result Said CertFaultKind) : Type 0 where
  NotAllowed : (IsInRange rows cols line.row → ⊥) → answer ≡ Err BadLine → JudgesRow rows cols lines line after answer
  TooLate : IsInRange rows cols line.row → IsLate rows cols lines line.row → answer ≡ Err OutOfOrder
      → JudgesRow rows cols lines line after answer
  TooEarly : IsInRange rows cols line.row → IsBehind rows cols lines line.row → (row : Row)
      → IsFirstLacking rows cols lines (Some line.row) row → answer ≡ Err (missing_line row)
      → JudgesRow rows cols lines line after answer
  Cut : IsInPlace rows cols lines line.row → (IsWholeText line.bytes → ⊥) → answer ≡ Err NotWhole
      → JudgesRow rows cols lines line after answer
  Wild : IsInPlace rows cols lines line.row → HasNoEffect rows cols line → answer ≡ Err NotTame
      → JudgesRow rows cols lines line after answer
  Untrue : IsInPlace rows cols lines line.row → (effect : Effect) → HasEffect rows cols line effect
      → (effect ≡ line.effect → ⊥) → answer ≡ Err NotShown → JudgesRow rows cols lines line after answer
  Unasked : IsInPlace rows cols lines line.row → HasEffect rows cols line line.effect → (IsAskedFor lines line → ⊥)
      → (kind : CertFaultKind) → IsMisfit line.row line.effect kind → answer ≡ Err kind
      → JudgesRow rows cols lines line after answer
  Stands : IsInPlace rows cols lines line.row → HasEffect rows cols line line.effect → IsAskedFor lines line
      → answer ≡ Ok after → JudgesRow rows cols lines line after answer

-- the last line, by cases in the order in which faults are reported
pub data JudgesLast (rows cols : ℕ) (pairs : Option (List ℕ)) (lines : List RowLine)
    (answer : Result Said CertFaultKind) : Type 0 where
  Lacks : (row : Row) → IsFirstLacking rows cols lines None row → answer ≡ Err (missing_line row)
      → JudgesLast rows cols pairs lines answer
  Clashes : IsComplete rows cols lines None → (clash : Clash)
      → OfLines rows cols lines (λ t. IsClash (is_some pairs) t clash) → answer ≡ Err (kind_of clash)
      → JudgesLast rows cols pairs lines answer
  Closes : IsComplete rows cols lines None → OfLines rows cols lines (λ t. GoesTogether (is_some pairs) t)
      → answer ≡ Ok (Ended pairs lines) → JudgesLast rows cols pairs lines answer

-- a line after that of alternate characters, or the second line if it isn't that one
pub data JudgesLater (rows cols : ℕ) (pairs : Option (List ℕ)) (lines : List RowLine) (text : List ℕ)
    (answer : Result Said CertFaultKind) : Type 0 where
  IsLast : is_end text ≡ true → JudgesLast rows cols pairs lines answer → JudgesLater rows cols pairs lines text answer
  IsRow : is_end text ≡ false → (line : RowLine) → IsTextOf text line
      → JudgesRow rows cols lines line (Listing pairs (line ∷ lines)) answer
      → JudgesLater rows cols pairs lines text answer
  IsMisplaced : is_end text ≡ false → ((line : RowLine) → IsTextOf text line → ⊥) → (bytes : List ℕ)
      → IsAcscText text bytes → answer ≡ Err OutOfOrder → JudgesLater rows cols pairs lines text answer
  IsNone : is_end text ≡ false → ((line : RowLine) → IsTextOf text line → ⊥)
      → ((bytes : List ℕ) → IsAcscText text bytes → ⊥) → answer ≡ Err BadLine
      → JudgesLater rows cols pairs lines text answer

-- the second line
pub data JudgesSecond (rows cols : ℕ) (text : List ℕ) (answer : Result Said CertFaultKind) : Type 0 where
  HasPairs : (bytes : List ℕ) → IsAcscText text bytes → answer ≡ Ok (Listing (Some bytes) [])
      → JudgesSecond rows cols text answer
  HasNoPairs : ((bytes : List ℕ) → IsAcscText text bytes → ⊥) → JudgesLater rows cols None [] text answer
      → JudgesSecond rows cols text answer

-- the first line
pub data JudgesFirst (rows cols : ℕ) (text : List ℕ) (answer : Result Said CertFaultKind) : Type 0 where
  HasSize : IsSizeText text rows cols → answer ≡ Ok Sized → JudgesFirst rows cols text answer
  HasNoSize : (IsSizeText text rows cols → ⊥) → answer ≡ Err BadLine → JudgesFirst rows cols text answer

-- one more line
abbrev pub JudgesLine : ℕ → ℕ → Said → List ℕ → Result Said CertFaultKind → Type 0
JudgesLine rows cols Nothing text answer = JudgesFirst rows cols text answer
JudgesLine rows cols Sized text answer = JudgesSecond rows cols text answer
JudgesLine rows cols (Listing pairs lines) text answer = JudgesLater rows cols pairs lines text answer
JudgesLine rows cols (Ended pairs lines) text answer = answer ≡ Err BadLine

-- the end of the text, which must come after the last line
abbrev pub JudgesEnd : Said → Result Said CertFaultKind → Type 0
JudgesEnd (Ended pairs lines) answer = answer ≡ Ok (Ended pairs lines)
JudgesEnd _ answer = answer ≡ Err BadLine

abbrev pub rules_of : ℕ → ℕ → Rules Said CertFaultKind
rules_of rows cols = record {
  line = λ said text answer. JudgesLine rows cols said text answer;
  end = λ said answer. JudgesEnd said answer;
  no_line = BadLine;
  no_memory = NoMemory;
  read_failed = ReadFailed;
}

-- the most bytes that a certificate has
abbrev pub limit : ℕ
limit = 67108864

-- a fault of a certificate, with its line
abbrev pub CertFault : Type 0
CertFault = LineFault CertFaultKind

-- the meaning of a whole text, or its first fault with its line
abbrev pub IsAnswer : ℕ → ℕ → List ℕ → Result Said CertFault → Type 0
IsAnswer rows cols text answer = Judged (rules_of rows cols) limit Nothing text answer
