-- The replies of `expand`.
use Rattle.std.specs.Prelude.{◌≡◌, ◌≢◌, ◌⊎◌, ◌<◌, ℕ, Bool, true, false, List, [], ◌∷◌, ◌++◌, Option, Some, None, Ok}
use Rattle.std.specs.Prelude.{Err, codes}
use Rattle.std.specs.Fmt.{decimal}
use Rattle.hex.specs.Hex.{encode_lower}
use Rattle.ti_parm.specs.Meaning.{sent}
use Rattle.ti_parm.specs.Value.{Value}
use Rattle.ti_source.specs.Escapes.{unescaped}
use Rattle.ti_source.specs.declared.escapes.EscapeFault.{EscapeFault}
use Rattle.ti_source.specs.declared.escapes.EscapeFault.TheVariants as escape_faults
use Rattle.ti_conforms.specs.CupReach.{IsWhole, ReachesBefore, ServesAsCup, TellsWhy}
use Rattle.ti_conforms.specs.declared.cup_reach.MissKind.{MissKind}
use Rattle.ti_conforms.specs.declared.cup_reach.MissKind.TheVariants as miss_kinds
use Rattle.vt_term.specs.Fault.{TellsFault}
use Rattle.vt_term.specs.Run.{Runs}
use Rattle.vt_term.specs.Screen.{State, reset}
use Rattle.vt_term.specs.Size.{IsSize}
use Rattle.vt_term.specs.declared.tokenizer.TokenFault.{TokenFault}
use Rattle.vt_term.specs.declared.tokenizer.TokenFaultKind.TheVariants as token_faults
use Rattle.ti_files.specs.Failures.{WrongParam, WrongSize}
use Rattle.ti_files.specs.Words.{GivesNumber, GiveParams, IsNumberWord, texts_of}
use Rattle.ti_requests.specs.declared.request.ExpandWords.{ExpandWords}
use Rattle.ti_files.specs.declared.failure.Failure.{Failure}
use Rattle.ti_files.specs.declared.failure.Failure.TheVariants.{Refused, Usage, NoMemory}
use Rattle.ti_files.specs.declared.failure.CommandRefusal.{CommandRefusal}
use Rattle.ti_files.specs.declared.failure.CommandRefusal.TheVariants.{Size, Escape, Parm, Token}
use Rattle.ti_files.specs.declared.failure.Reply.{Reply}

-- the words can be read: they give numbers for the size, and values for the parameters
pub record Asked (words : ExpandWords) : Type 0 where
  pub rows : ℕ
  pub cols : ℕ
  pub values : List Value
  pub gives_rows : GivesNumber words.rows.now rows
  pub gives_cols : GivesNumber words.cols.now cols
  pub gives_params : GiveParams (texts_of words.params.items) values

-- the bytes in hexadecimal, on a line
abbrev pub hex_line : List ℕ → List ℕ
hex_line bytes = encode_lower bytes ++ 10 ∷ []

-- the line with the cursor's place, and the line with a place to which a string wasn't shown to lead
abbrev pub cursor_line : ℕ → ℕ → List ℕ
cursor_line row col = codes "cursor " ++ (decimal row ++ (codes " " ++ (decimal col ++ 10 ∷ [])))

abbrev pub no_line : ℕ → ℕ → List ℕ
no_line row col = codes "cup no " ++ (decimal row ++ (codes " " ++ (decimal col ++ 10 ∷ [])))

-- the line that says where the bytes leave the cursor of a terminal in its reset state
pub record ShowsCursor (rows cols : ℕ) (bytes line : List ℕ) : Type 0 where
  pub after : State
  pub runs : Runs (reset rows cols) bytes after
  pub spelled : line ≡ cursor_line after.screen.row after.screen.col

-- the line that says that a string serves as `cup`, or the first place for which that isn't shown
pub data JudgesCup (string : List ℕ) (rows cols : ℕ) : List ℕ → Type 0 where
  serves : ServesAsCup string rows cols → JudgesCup string rows cols (codes "cup yes\n")
  misses : (row col : ℕ) (kind : MissKind) → row < rows → col < cols → kind ≢ miss_kinds.NoMemory
      → ReachesBefore string rows cols row col → TellsWhy string rows cols row col kind
      → JudgesCup string rows cols (no_line row col)

-- a line if one is asked for
abbrev pub JudgesIf : Bool → List ℕ → ℕ → ℕ → List ℕ → Type 0
JudgesIf true string rows cols line = JudgesCup string rows cols line
JudgesIf false string rows cols line = line ≡ []

-- the reply to bytes that are a whole text
pub record ShowsAll (judges : Bool) (rows cols : ℕ) (string bytes text : List ℕ) : Type 0 where
  pub whole : IsWhole bytes
  pub cursor : List ℕ
  pub cup : List ℕ
  pub shows : ShowsCursor rows cols bytes cursor
  pub judged : JudgesIf judges string rows cols cup
  pub spelled : text ≡ hex_line bytes ++ (cursor ++ cup)

-- the reply to bytes that aren't a whole text
pub record ShowsHex (bytes text : List ℕ) (fault : TokenFault) : Type 0 where
  pub spelled : text ≡ hex_line bytes
  pub told : TellsFault bytes fault
  pub known : fault.kind ≢ token_faults.NoMemory

-- the reply has no failure if the bytes are a whole text, and their fault if not
abbrev pub ShowsUpTo : Bool → ℕ → ℕ → List ℕ → List ℕ → List ℕ → Option Failure → Type 0
ShowsUpTo judges rows cols string bytes text None = ShowsAll judges rows cols string bytes text
ShowsUpTo judges rows cols string bytes text (Some (Refused (Token fault))) = ShowsHex bytes text fault
ShowsUpTo judges rows cols string bytes text (Some _) = ⊥

-- the reply about the bytes that a string sent to a terminal of this size
pub record Shows (judges : Bool) (rows cols : ℕ) (string bytes : List ℕ) (reply : Reply) : Type 0 where
  pub notes : reply.notes.items ≡ []
  pub shows : ShowsUpTo judges rows cols string bytes reply.text.items reply.failure

-- the words are read, the size is allowed, and neither the string's escapes nor its expansion has a fault
pub record IsExpanded (words : ExpandWords) (reply : Reply) : Type 0 where
  pub asked : Asked words
  pub size : IsSize asked.rows asked.cols
  pub string : List ℕ
  pub unescapes : unescaped words.string.now ≡ Ok string
  pub bytes : List ℕ
  pub sends : sent string asked.values ≡ Ok bytes
  pub shows : Shows words.judges_cup asked.rows asked.cols string bytes reply

-- the failure for a fault of the escapes
abbrev pub escape_failure : EscapeFault → Failure
escape_failure escape_faults.NoMemory = NoMemory
escape_failure escape_faults.BadEscape = Refused (Escape escape_faults.BadEscape)
escape_failure escape_faults.TooLong = Refused (Escape escape_faults.TooLong)

-- the failure for a fault of the expansion
abbrev pub IsParmFailure : List ℕ → List Value → Failure → Type 0
IsParmFailure string values (Refused (Parm fault)) = sent string values ≡ Err fault
IsParmFailure string values NoMemory = Unit {0}
IsParmFailure string values _ = ⊥

-- the first wrong word: the rows come first, then the columns, then the parameters
abbrev pub WrongWords : ExpandWords → Failure → Type 0
WrongWords words failure =
    WrongSize words.rows.now words.cols.now failure
    ⊎ (IsNumberWord words.rows.now × IsNumberWord words.cols.now × WrongParam (texts_of words.params.items) failure)

-- the refusals, in this order
abbrev pub RefusesExpansion : ExpandWords → CommandRefusal → Type 0
RefusesExpansion words Size = (asked : Asked words) × (IsSize asked.rows asked.cols → ⊥)
RefusesExpansion words (Escape fault) =
    (asked : Asked words) × IsSize asked.rows asked.cols × (unescaped words.string.now ≡ Err fault)
RefusesExpansion words (Parm fault) =
    (asked : Asked words) × IsSize asked.rows asked.cols
    × ((string : List ℕ) × (unescaped words.string.now ≡ Ok string) × (sent string asked.values ≡ Err fault))
RefusesExpansion words _ = ⊥

-- wrong words come first, then refusals
abbrev pub FailsToExpand : ExpandWords → Failure → Type 0
FailsToExpand words (Usage told) = WrongWords words (Usage told)
FailsToExpand words (Refused refusal) = RefusesExpansion words refusal
FailsToExpand words NoMemory = Unit {0}
FailsToExpand words _ = ⊥
