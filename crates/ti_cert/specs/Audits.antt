-- (Serves the code alone.) The facts known while a certificate is read, and their relation to the meaning of its lines.
use Rattle.std.specs.Prelude.{ℕ, ◌+◌, ◌-◌, ◌≡◌, ◌⊎◌, Bool, true, List, [], ◌∷◌, length, Option, None, Some, Result, Ok}
use Rattle.std.specs.Prelude.{Err}
use Rattle.vt_effects.specs.declared.effects.Effect.{Effect}
use Rattle.ti_conforms.specs.declared.closures.Charsets.{Charsets}
use Rattle.vt_effects.specs.Record.{record_of}
use Rattle.vt_term.specs.Text.{Splits}
use Rattle.ti_conforms.specs.Charsets.{IsAmong}
use Rattle.ti_conforms.specs.Judged.{IsJudged}
use Rattle.ti_rows.specs.declared.rows.Row.{Row}
use Rattle.ti_rows.specs.declared.rows.Row.TheVariants.{Clear, Sgr0, Csr}
use Rattle.ti_rows.specs.Asked.{start_of, asked}
use Rattle.ti_rows.specs.Lists.{IsInRange}
use Rattle.ti_lines.specs.declared.row_lines.RowLine.{RowLine}
use Rattle.ti_lines.specs.Heads.{IsAcscText}
use Rattle.ti_lines.specs.Judgements.{Rules}
use Rattle.ti_cert.specs.Known.{Known, Holds, looks_with}
use Rattle.ti_cert.specs.Certificates.{Said, Nothing, Sized, Listing, Ended, speaks_of, looks_of, IsWholeText, IsMisfit}
use Rattle.ti_cert.specs.Certificates.{JudgesRow, JudgesLast, JudgesLater, JudgesLine, JudgesEnd}
use Rattle.ti_cert.specs.Order.{Precedes, HasLine, GivesBytes, IsComplete}
use Rattle.ti_cert.specs.Clashes.{IsClash, GoesTogether, kind_of}
use Rattle.ti_cert.specs.declared.clashes.Clash.{Clash}
use Rattle.ti_cert.specs.Strings.{Strings, row_string, has_group, total}
use Rattle.ti_cert.specs.Table.{CheckedTable, checked_of}
use Rattle.ti_cert.specs.declared.audits.Progress.{Progress}
use Rattle.ti_cert.specs.declared.audits.Awaited.{Awaited}
use Rattle.ti_cert.specs.declared.audits.Awaited.TheVariants as lines_awaited
use Rattle.ti_cert.specs.declared.faults.CertFaultKind.{CertFaultKind}
use Rattle.ti_cert.specs.declared.faults.CertFaultKind.TheVariants.{BadLine, OutOfOrder, NotWhole, NotTame, NotShown}
use Rattle.ti_cert.specs.declared.faults.CertFaultKind.TheVariants.{NoMemory, ReadFailed}

-- the number of bytes of all these lines together
abbrev pub all_bytes : List RowLine → ℕ
all_bytes [] = 0
all_bytes (line ∷ lines) = length line.bytes + all_bytes lines

-- the strings are exactly those of the lines, and attributes look as the lines say
pub record Lists (k : Known) (lines : List RowLine) : Type 0 where
  pub found : (row : Row) (bytes : List ℕ) → row_string k.strings row ≡ Some bytes → GivesBytes lines row bytes
  pub kept : (line : RowLine) → IsAmong lines line → row_string k.strings line.row ≡ Some line.bytes
  pub groups : (row : Row) → has_group k.strings row ≡ speaks_of lines row
  pub looks : k.looks ≡ looks_of lines
  pub total_is : total k.strings ≡ all_bytes lines

-- the last of these lines is about this row, and nothing is missing before it
pub record IsLastRow (rows cols : ℕ) (lines : List RowLine) (last : Row) : Type 0 where
  pub range : IsInRange rows cols last
  pub there : HasLine lines last
  pub upper : (line : RowLine) → IsAmong lines line → (line.row ≡ last) ⊎ Precedes rows cols line.row last
  pub complete : IsComplete rows cols lines (Some last)

abbrev pub IsUpTo : ℕ → ℕ → List RowLine → Option Row → Type 0
IsUpTo rows cols lines None = (line : RowLine) → IsAmong lines line → ⊥
IsUpTo rows cols lines (Some last) = IsLastRow rows cols lines last

-- the progress has its own size and exactly these lines about capabilities, which are in their order
pub record Stands (p : Progress) (lines : List RowLine) : Type 0 where
  pub rows : p.known.strings.rows ≡ p.size.rows
  pub cols : p.known.strings.cols ≡ p.size.cols
  pub holds : Holds p.known
  pub lists : Lists p.known lines
  pub place : IsUpTo p.size.rows p.size.cols lines p.place.last

-- the state of the reading agrees with the lines so far; once the last line was read, the strings are judged
abbrev pub Tells : Progress → Awaited → Said → Type 0
Tells p lines_awaited.First Nothing = Stands p [] × (p.acsc ≡ None)
Tells p lines_awaited.Acsc Sized = Stands p [] × (p.acsc ≡ None)
Tells p lines_awaited.Rows (Listing pairs lines) = Stands p lines × (p.acsc ≡ pairs)
Tells p (lines_awaited.Ended settled) (Ended pairs lines) =
    Stands p lines × (p.acsc ≡ pairs) × IsJudged (checked_of p.known settled)
Tells p awaited said = ⊥

abbrev pub TellsNow : Progress → Said → Type 0
TellsNow p said = Tells p p.awaited said

-- after a line without fault: the judgement gives a meaning of the lines, the new progress agrees with it, and the size
-- stays
pub record Steps (q : Progress) (size_rows size_cols : ℕ) (Judges : Result Said CertFaultKind → Type 0) : Type 0 where
  pub after : Said
  pub judges : Judges (Ok after)
  pub tells : TellsNow q after
  pub rows : q.size.rows ≡ size_rows
  pub cols : q.size.cols ≡ size_cols

abbrev pub Becomes : Progress → Result Progress CertFaultKind → (Result Said CertFaultKind → Type 0) → Type 0
Becomes p (Ok q) Judges = Steps q p.size.rows p.size.cols Judges
Becomes p (Err kind) Judges = Judges (Err kind)

abbrev pub AnswersLine : Progress → List ℕ → Result Progress CertFaultKind → Type 0
AnswersLine p text answer =
    (said : Said) → TellsNow p said → Becomes p answer (JudgesLine p.size.rows p.size.cols said text)

abbrev pub AnswersEnd : Progress → Result Progress CertFaultKind → Type 0
AnswersEnd p answer = (said : Said) → TellsNow p said → Becomes p answer (JudgesEnd said)

abbrev pub progress_rules : Rules Progress CertFaultKind
progress_rules = record {
  line = λ p text answer. AnswersLine p text answer;
  end = λ p answer. AnswersEnd p answer;
  no_line = BadLine;
  no_memory = NoMemory;
  read_failed = ReadFailed;
}

-- nothing is read
pub record Starts (size_rows size_cols : ℕ) (p : Progress) : Type 0 where
  pub rows : p.size.rows ≡ size_rows
  pub cols : p.size.cols ≡ size_cols
  pub tells : TellsNow p Nothing

-- everything is read
pub record IsWholeRead (p : Progress) : Type 0 where
  pub pairs : Option (List ℕ)
  pub lines : List RowLine
  pub tells : TellsNow p (Ended pairs lines)

abbrev pub settled_of : Awaited → Option Charsets
settled_of (lines_awaited.Ended settled) = Some settled
settled_of _ = None

pub record IsTableMade (p : Progress) (table : CheckedTable) : Type 0 where
  pub known : table.known ≡ p.known
  pub acsc : table.acsc ≡ p.acsc

-- the answer to a line after the size and the pairs, if there are pairs; to a line about a capability; and to the last
-- line
abbrev pub AnswersLater : Progress → List ℕ → Result Progress CertFaultKind → Type 0
AnswersLater p text answer =
    (pairs : Option (List ℕ)) (lines : List RowLine) → Stands p lines → p.acsc ≡ pairs
    → Becomes p answer (JudgesLater p.size.rows p.size.cols pairs lines text)

abbrev pub AnswersRow : Progress → RowLine → Result Progress CertFaultKind → Type 0
AnswersRow p line answer = (pairs : Option (List ℕ)) (lines : List RowLine) → Stands p lines → p.acsc ≡ pairs
    → Becomes p answer (λ said. JudgesRow p.size.rows p.size.cols lines line (Listing pairs (line ∷ lines)) said)

abbrev pub AnswersLast : Progress → Result Progress CertFaultKind → Type 0
AnswersLast p answer =
    (pairs : Option (List ℕ)) (lines : List RowLine) → Stands p lines → p.acsc ≡ pairs
    → Becomes p answer (JudgesLast p.size.rows p.size.cols pairs lines)

-- the refusal with this fault is an answer, or memory ran out
abbrev pub OrNoMemory : CertFaultKind → (Result Progress CertFaultKind → Type 0) → Type 0
OrNoMemory kind Answers = Answers (Err kind) ⊎ (kind ≡ NoMemory)

-- the bytes aren't whole control functions, or memory ran out
abbrev pub IsTokenFault : List ℕ → CertFaultKind → Type 0
IsTokenFault bytes kind = ((kind ≡ NotWhole) × (IsWholeText bytes → ⊥)) ⊎ (kind ≡ NoMemory)

-- the fault of a line about this row that states this effect and has these tokens
pub data Misshows (k : Known) (row : Row) (stated : Effect) (tokens : List (List ℕ))
    (kind : CertFaultKind) : Type 0 where
  NoRecord : record_of k.strings.rows k.strings.cols (start_of k.strings.rows k.strings.cols row) tokens ≡ None
      → kind ≡ NotTame → Misshows k row stated tokens kind
  Another : (effect : Effect)
      → record_of k.strings.rows k.strings.cols (start_of k.strings.rows k.strings.cols row) tokens ≡ Some effect
      → (effect ≡ stated → ⊥) → kind ≡ NotShown → Misshows k row stated tokens kind
  NotAsked : record_of k.strings.rows k.strings.cols (start_of k.strings.rows k.strings.cols row) tokens ≡ Some stated
      → (stated ≡ asked (looks_with k row stated) row stated → ⊥)
      → IsMisfit row stated kind → Misshows k row stated tokens kind

-- the fault of a text that isn't a line about a capability
pub data IsMisplacedBy (text : List ℕ) (kind : CertFaultKind) : Type 0 where
  HasPairs : (bytes : List ℕ) → IsAcscText text bytes → kind ≡ OutOfOrder → IsMisplacedBy text kind
  HasNoPairs : ((bytes : List ℕ) → IsAcscText text bytes → ⊥) → kind ≡ BadLine → IsMisplacedBy text kind
  HasNoMemory : kind ≡ NoMemory → IsMisplacedBy text kind

-- a string has no record, or memory ran out
pub data LacksRecord (s : Strings) (kind : CertFaultKind) : Type 0 where
  NotSplit : (row : Row) (bytes : List ℕ) → row_string s row ≡ Some bytes → (IsWholeText bytes → ⊥) → LacksRecord s kind
  NotRecorded : (row : Row) (bytes : List ℕ) → row_string s row ≡ Some bytes → (tokens : List (List ℕ))
      → Splits bytes tokens [] → record_of s.rows s.cols (start_of s.rows s.cols row) tokens ≡ None → LacksRecord s kind
  RanOut : kind ≡ NoMemory → LacksRecord s kind

-- a line that a resynchronization needs is missing: `clear`, `sgr0`, or `csr` of the whole screen if `csr` has lines
pub data LacksNeeded (s : Strings) (kind : CertFaultKind) : Type 0 where
  NoClear : row_string s Clear ≡ None → LacksNeeded s kind
  NoSgr0 : row_string s Sgr0 ≡ None → LacksNeeded s kind
  NoWidening : has_group s (Csr 0 1) ≡ true → row_string s (Csr 0 (s.rows - 1)) ≡ None → LacksNeeded s kind

-- the facts known once the lines together have no fault
pub record IsConcluded (k : Known) (has_pairs : Bool) (settled : Charsets) : Type 0 where
  pub judged : IsJudged (checked_of k settled)
  pub together : GoesTogether has_pairs (checked_of k settled)

-- the fault of all lines together, each of which was judged by itself
pub data ConcludesBy (k : Known) (has_pairs : Bool) (kind : CertFaultKind) : Type 0 where
  Lacking : LacksNeeded k.strings kind → ConcludesBy k has_pairs kind
  Together : (settled : Charsets) (clash : Clash) → IsClash has_pairs (checked_of k settled) clash
      → kind ≡ kind_of clash → ConcludesBy k has_pairs kind
  NoRoom : kind ≡ NoMemory → ConcludesBy k has_pairs kind
