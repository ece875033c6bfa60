-- The entries of a whole terminfo(5) source text, or its first fault with the line.
use Rattle.std.specs.Prelude.{ℕ, ◌+◌, Bool, false, ◌||◌, List, [], ◌∷◌, ◌++◌, length, Option, Some, None, Result, Ok}
use Rattle.std.specs.Prelude.{Err, if◌then◌else◌, ◌==◌, nat_lt, ◌≡◌, option_to_list}
use Rattle.std.specs.List.{list_all}
use Rattle.ti_source.specs.declared.types.FaultKind.{FaultKind}
use Rattle.ti_source.specs.declared.types.FaultKind.TheVariants.{NoName, WrongKind, BadNumber, NumberRange, OpenField}
use Rattle.ti_source.specs.declared.types.FaultKind.TheVariants.{BadEscape, TooLong, NoMemory}
use Rattle.ti_source.specs.declared.types.SourceFault.{SourceFault}
use Rattle.ti_source.specs.declared.types.RawEntry.{RawEntry}
use Rattle.ti_source.specs.Layout.{lines_of, is_white, cut_of}
use Rattle.ti_source.specs.Fields.{◌>>=◌, add_cut, entry_on}
use Rattle.ti_source.specs.Marks.{hash}

-- the entries that are whole, and the one that further lines may continue
pub record Progress : Type 0 where
  pub done : List RawEntry
  pub open_entry : Option RawEntry

abbrev pub all_of : Progress → List RawEntry
all_of progress = progress.done ++ option_to_list progress.open_entry

-- a line whose first byte is #
abbrev pub is_comment : List ℕ → Bool
is_comment [] = false
is_comment (b ∷ rest) = b == hash

abbrev pub is_passed : List ℕ → Bool
is_passed line = list_all is_white line || is_comment line

-- further lines of an entry begin with white space
abbrev pub begins_white : List ℕ → Bool
begins_white [] = false
begins_white (b ∷ rest) = is_white b

-- a line that continues the open entry
abbrev pub continued : ℕ → List ℕ → Progress → Option RawEntry → Result Progress FaultKind
continued number line progress None = Err NoName
continued number line progress (Some raw) =
    add_cut number raw (cut_of line) >>= λ next. Ok (record { done = progress.done; open_entry = Some next })

-- the first line of an entry
abbrev pub begun : ℕ → List ℕ → Progress → Result Progress FaultKind
begun number line progress =
    entry_on number line >>= λ raw. Ok (record { done = all_of progress; open_entry = Some raw })

unfoldable pub read_line : ℕ → List ℕ → Progress → Result Progress FaultKind
read_line number line progress =
    if is_passed line then Ok progress
    else (if begins_white line then continued number line progress progress.open_entry else begun number line progress)

-- a fault with its line
abbrev pub fault_at : ℕ → FaultKind → SourceFault
fault_at number kind = record { line = number; kind = kind }

abbrev pub lines_behind : ℕ → Result Progress FaultKind → (Progress → Result (List RawEntry) SourceFault)
    → Result (List RawEntry) SourceFault
lines_behind number (Err kind) behind = Err (fault_at number kind)
lines_behind number (Ok progress) behind = behind progress

-- the lines from this number on
abbrev pub read_lines : ℕ → List (List ℕ) → Progress → Result (List RawEntry) SourceFault
read_lines number [] progress = Ok (all_of progress)
read_lines number (line ∷ lines) progress =
    lines_behind number (read_line number line progress) (read_lines (number + 1) lines)

abbrev pub no_progress : Progress
no_progress = record { done = []; open_entry = None }

-- the entries of a text, or its first fault; a text has at most 16777216 bytes
unfoldable pub source_of : List ℕ → Result (List RawEntry) SourceFault
source_of text =
    if nat_lt 16777216 (length text) then Err (fault_at 0 TooLong) else read_lines 1 (lines_of text) no_progress

-- the call's fault is that of reading, unless memory ran out
abbrev pub FailsBy : {Y E : Type 0} → FaultKind → E → Result Y E → Type 0
FailsBy NoName fault read = read ≡ Err fault
FailsBy WrongKind fault read = read ≡ Err fault
FailsBy BadNumber fault read = read ≡ Err fault
FailsBy NumberRange fault read = read ≡ Err fault
FailsBy OpenField fault read = read ≡ Err fault
FailsBy BadEscape fault read = read ≡ Err fault
FailsBy TooLong fault read = read ≡ Err fault
FailsBy NoMemory fault read = Unit {0}

-- the call's result, seen through the view, is that of reading
abbrev pub Gives : {X Y : Type 0} → (X → Y) → Result X FaultKind → Result Y FaultKind → Type 0
Gives view (Ok x) read = read ≡ Ok (view x)
Gives view (Err kind) read = FailsBy kind kind read
