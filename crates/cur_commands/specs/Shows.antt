-- The text that `show` prints: a line for each refused call, then the screen of the terminal.
use Rattle.std.specs.Prelude.{◌≡◌, ℕ, ◌+◌, List, [], ◌∷◌, ◌++◌, Option, Some, codes}
use Rattle.std.specs.Fmt.{decimal}
use Rattle.vt_term.specs.Printed.{screen_text}
use Rattle.vt_term.specs.Run.{Runs}
use Rattle.vt_term.specs.Screen.{State, reset}
use Rattle.cur_drawing.specs.declared.refusals.Refusal.{Refusal}
use Rattle.cur_drawing.specs.declared.refusals.Refusal.TheVariants as refusals
use Rattle.ti_conforms.specs.Certified.{Table}
use Rattle.cur_scripts.specs.declared.calls.Call.{Call}
use Rattle.cur_play.specs.Log.{Ran}
use Rattle.cur_play.specs.declared.answers.Answer.{Answer}
use Rattle.cur_play.specs.declared.answers.Answer.TheVariants as answers
use Rattle.cur_play.specs.declared.runs.LogEntry.{LogEntry}
use Rattle.cur_commands.specs.Through.{AreThrough, unfailing}

abbrev pub refusal_name : Refusal → List ℕ
refusal_name refusals.NoWindow = codes "NoWindow"
refusal_name refusals.OutOfWindow = codes "OutOfWindow"
refusal_name refusals.OutOfScreen = codes "OutOfScreen"
refusal_name refusals.HasChildren = codes "HasChildren"
refusal_name refusals.IsSub = codes "IsSub"
refusal_name refusals.PadKind = codes "PadKind"
refusal_name refusals.NoScroll = codes "NoScroll"
refusal_name refusals.BadRegion = codes "BadRegion"
refusal_name refusals.NumberUsed = codes "NumberUsed"
refusal_name refusals.BadCell = codes "BadCell"
refusal_name refusals.Full = codes "Full"
refusal_name refusals.NoMemory = codes "NoMemory"
refusal_name refusals.IsScreen = codes "IsScreen"
refusal_name refusals.NoCap = codes "NoCap"
refusal_name refusals.IsLost = codes "IsLost"
refusal_name refusals.BadPair = codes "BadPair"

-- `call N: NAME`
abbrev pub refusal_line : ℕ → Refusal → List ℕ
refusal_line n refusal = codes "call " ++ (decimal n ++ (codes ": " ++ (refusal_name refusal ++ 10 ∷ [])))

-- the line of the call of this number, if it was refused
abbrev pub answer_line : ℕ → Answer → List ℕ
answer_line n (answers.Refused refusal) = refusal_line n refusal
answer_line n _ = []

-- the lines of the calls after the first n
abbrev pub refusals_text : ℕ → List LogEntry → List ℕ
refusals_text n [] = []
refusals_text n (e ∷ log) = answer_line (n + 1) e.answer ++ refusals_text (n + 1) log

-- A run of these calls in which none was cut short, and all the bytes that it sent.
pub record RanWhole (t : Table) (partners : ℕ → Option ℕ) (calls : List Call) (bytes : List ℕ) : Type 0 where
  pub log : List LogEntry
  pub ran : Ran (unfailing t partners) (Some []) (Some bytes) calls log
  pub through : AreThrough log

-- the text is about a run and the screen that a terminal in its reset state shows after the bytes
pub record ShowsRun (t : Table) (partners : ℕ → Option ℕ) (rows cols : ℕ) (calls : List Call)
    (text : List ℕ) : Type 0 where
  pub bytes : List ℕ
  pub whole : RanWhole t partners calls bytes
  pub after : State
  pub runs : Runs (reset rows cols) bytes after
  pub spelled : text ≡ refusals_text 0 whole.log ++ screen_text after.screen

-- a terminal in its reset state takes all these bytes
pub record IsTaken (rows cols : ℕ) (bytes : List ℕ) : Type 0 where
  pub after : State
  pub runs : Runs (reset rows cols) bytes after
