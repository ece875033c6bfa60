-- The replies of `feed` with options, by the contents of its file.
use Rattle.std.specs.Prelude.{◌≡◌, ◌==◌, ◌&&◌, ℕ, Bool, List, [], ◌∷◌, ◌++◌, codes, if◌then◌else◌, None}
use Rattle.std.specs.Fmt.{decimal}
use Rattle.std.specs.String.{string_bytes}
use Rattle.ti_requests.specs.declared.feeds.FeedForm.{FeedForm}
use Rattle.ti_requests.specs.declared.feeds.FeedForm.TheVariants.{Screen, State, Json, Cases}
use Rattle.ti_requests.specs.declared.feeds.FeedWords.{FeedWords}
use Rattle.vt_term.specs.Printed.{screen_text}
use Rattle.vt_term.specs.Run.{Runs}
use Rattle.vt_term.specs.Screen as terminal
use Rattle.vt_states.specs.Cases.{AreAnswers, IsBadLine}
use Rattle.vt_states.specs.Json.{list_member, object}
use Rattle.vt_states.specs.Lines.{state_text}
use Rattle.vt_states.specs.Recordings.{all_parts, dropped, plain_text, replaced, total, unscripted}
use Rattle.ti_files.specs.Contents.{HasBytes, Held, longest_file}
use Rattle.ti_commands.specs.Feeds.{IsStuckFailure, ShowsAfter}
use Rattle.ti_commands.specs.declared.fed.Fed.{Fed}
use Rattle.ti_files.specs.Sizes.{HasSize, LacksSize, SizeGiven}
use Rattle.ti_files.specs.declared.failure.Failure.{Failure}
use Rattle.ti_files.specs.declared.failure.Failure.TheVariants.{Refused, File, NoMemory}
use Rattle.ti_files.specs.declared.failure.CommandRefusal.TheVariants.{Stuck, Verdict}
use Rattle.ti_files.specs.declared.failure.Reply.{Reply}

-- a state in the form that was asked for; what is said of the kinds of sequences without effect is `more`
abbrev pub form_text : FeedForm → terminal.State → List ℕ → List ℕ
form_text Screen s more = screen_text s.screen
form_text State s more = state_text s ++ more
form_text Json s more = object (list_member (codes "no_effect") more) s ++ 10 ∷ []
form_text Cases s more = []

-- the bytes that the terminal gets from a file
abbrev pub fed_of : Bool → List ℕ → List ℕ
fed_of plain bytes = if plain then plain_text (unscripted bytes) else bytes

-- the note about a recording: empty if nothing was dropped or replaced
abbrev pub note_of : ℕ → ℕ → List ℕ
note_of gone marks =
    if (gone == 0) && (marks == 0) then []
    else codes "plain-text: " ++ (decimal gone ++ (codes " bytes of strings dropped, "
    ++ (decimal marks ++ codes " characters shown as ?\n")))

abbrev pub notes_of : Bool → List ℕ → List ℕ
notes_of plain bytes =
    if plain then note_of (total dropped (all_parts (unscripted bytes))) (total replaced (all_parts (unscripted bytes)))
    else []

-- `text` is the state, in this form, that the bytes leave; no clause says what it says of sequences without effect
pub record ShowsForm (form : FeedForm) (rows cols : ℕ) (bytes text : List ℕ) : Type 0 where
  pub after : terminal.State
  pub runs : Runs (terminal.reset rows cols) bytes after
  pub more : List ℕ
  pub spelled : text ≡ form_text form after more

abbrev pub Shows : FeedForm → ℕ → ℕ → List ℕ → List ℕ → Type 0
Shows Cases rows cols bytes text = AreAnswers rows cols bytes text
Shows Screen rows cols bytes text = ShowsAfter rows cols bytes text
Shows State rows cols bytes text = ShowsForm State rows cols bytes text
Shows Json rows cols bytes text = ShowsForm Json rows cols bytes text

-- notes and text of the reply to the bytes of a file
pub record Replies (words : FeedWords) (rows cols : ℕ) (bytes : List ℕ) (reply : Reply) : Type 0 where
  pub shows : Shows words.form rows cols (fed_of words.plain_text bytes) reply.text.items
  pub notes : reply.notes.items ≡ notes_of words.plain_text bytes
  pub done : reply.failure ≡ None

-- the reply to the file of these words
pub record ShowsStates (held : Held) (words : FeedWords) (reply : Reply) : Type 0 where
  pub height : ℕ
  pub width : ℕ
  pub given : SizeGiven words.rows.now words.cols.now height width
  pub replies : HasBytes (held.at words.file.now) longest_file (λ bytes. Replies words height width bytes reply)

abbrev pub line_text : ℕ → List ℕ
line_text line = codes "line " ++ (decimal line ++ codes ": BadLine")

-- the failure of a line in a file of cases that isn't a case
abbrev pub IsBadLineFailure : ℕ → Failure → Type 0
IsBadLineFailure line (Refused (Verdict told)) = told.items ≡ line_text line
IsBadLineFailure line NoMemory = Unit {0}
IsBadLineFailure line _ = ⊥

-- some line of these bytes isn't a case
abbrev pub HasBadLine : List ℕ → Failure → Type 0
HasBadLine bytes (Refused (Verdict told)) = (line : ℕ) × (told.items ≡ line_text line) × IsBadLine bytes line
HasBadLine bytes NoMemory = Unit {0}
HasBadLine bytes _ = ⊥

-- why there is no reply to these bytes
abbrev pub FailsWith : FeedForm → ℕ → ℕ → List ℕ → Failure → Type 0
FailsWith Cases rows cols bytes failure = HasBadLine bytes failure
FailsWith Screen rows cols bytes failure = IsStuckFailure rows cols bytes failure
FailsWith State rows cols bytes failure = IsStuckFailure rows cols bytes failure
FailsWith Json rows cols bytes failure = IsStuckFailure rows cols bytes failure

-- there is no reply to the bytes of the file
pub record FileFails (held : Held) (words : FeedWords) (failure : Failure) : Type 0 where
  pub height : ℕ
  pub width : ℕ
  pub given : SizeGiven words.rows.now words.cols.now height width
  pub fails : HasBytes (held.at words.file.now) longest_file
      (λ bytes. FailsWith words.form height width (fed_of words.plain_text bytes) failure)

-- wrong words come first, then the size, then the file, then its bytes
abbrev pub FailsToShow : Held → FeedWords → Failure → Type 0
FailsToShow held words (Refused (Stuck stuck)) = FileFails held words (Refused (Stuck stuck))
FailsToShow held words (Refused (Verdict told)) = FileFails held words (Refused (Verdict told))
FailsToShow held words (File told) = HasSize words.rows.now words.cols.now × (string_bytes told ≡ words.file.now)
FailsToShow held words failure = LacksSize words.rows.now words.cols.now failure

-- ---- for private clauses: the output and the failure in a form, for what a terminal is fed with

abbrev pub ShowsFed : FeedForm → Fed → List ℕ → Type 0
ShowsFed form fed text = Shows form fed.size.rows fed.size.cols fed.bytes.now text

abbrev pub FailsFed : FeedForm → Fed → Failure → Type 0
FailsFed form fed failure = FailsWith form fed.size.rows fed.size.cols fed.bytes.now failure
