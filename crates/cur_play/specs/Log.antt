-- The meaning of a run's log, wherever the wire failed: the effect and the bytes of each call, the terminal's screen
-- after it, and the most that a refresh sends (X/Open Curses Issue 7, refresh, doupdate, beep, endwin).
use Rattle.std.specs.Prelude.{ℕ, ◌+◌, ◌*◌, ◌<◌, ◌≤◌, ◌≡◌, Bool, true, false, List, [], ◌∷◌, ◌++◌, length, Option, Some}
use Rattle.vt_term.specs.Screen.{State}
use Rattle.vt_term.specs.Run.{Runs}
use Rattle.vt_term.specs.Ends.{Ends}
use Rattle.ti_rows.specs.declared.rows.Row.TheVariants.{Bel}
use Rattle.ti_conforms.specs.Certified.{Table, IsLost, cell_limit}
use Rattle.cur_screens.specs.VirtualScreen.{Screen, new_screen}
use Rattle.cur_steps.specs.Wire.{Rose}
use Rattle.cur_steps.specs.declared.beliefs.Mode.{Mode}
use Rattle.cur_paint.specs.Finish.{finish_text}
use Rattle.cur_paint.specs.Limits.{IsCursor, fresh_limit}
use Rattle.cur_paint.specs.Modes.{shown_mode}
use Rattle.cur_paint.specs.Update.{IsFresh, Lawful, Shows}
use Rattle.cur_paint.specs.declared.updates.Status.{Status}
use Rattle.cur_paint.specs.declared.updates.Status.TheVariants.{Known}
use Rattle.cur_update.specs.Differ.{in_lines}
use Rattle.cur_update.specs.Inks.{ink_at}
use Rattle.cur_update.specs.Painters.{place_of, wanted_of}
use Rattle.cur_scripts.specs.declared.calls.Call.{Call}
use Rattle.cur_play.specs.Scenes.{Scene, first}
use Rattle.cur_play.specs.Steps.{CallStep, drawn, output_of}
use Rattle.cur_play.specs.declared.answers.Answer.{Answer}
use Rattle.cur_play.specs.declared.answers.Answer.TheVariants.{Done, WireFailed}
use Rattle.cur_play.specs.declared.runs.LogEntry.{LogEntry}
use Rattle.cur_play.specs.declared.sends.Emission.{Emission}
use Rattle.cur_play.specs.declared.sends.Emission.TheVariants.{Nothing, Update, Bell, End}

-- ---- the subject of a run, and a moment of it

-- a wire, given by the bytes that go out between two moments and the count of its failures, and a terminal, given by
-- its certificate
pub record Subject (W : Type 0) : Type 1 where
  pub went : W → W → List ℕ → Type 0
  pub failures : W → ℕ
  -- a property of the wire after each call
  pub rests : W → Type 0
  pub table : Table
  pub partners : ℕ → Option ℕ

abbrev pub subject_at : {W : Type 0} → (W → W → List ℕ → Type 0) → (W → ℕ) → (W → Type 0) → Table → (ℕ → Option ℕ)
    → Subject W
subject_at went failures rests t partners =
    record { went = went; failures = failures; rests = rests; table = t; partners = partners }

abbrev pub subject_of : {W : Type 0} → (W → W → List ℕ → Type 0) → (W → ℕ) → Table → (ℕ → Option ℕ) → Subject W
subject_of went failures t partners = subject_at went failures (λ a. Unit {0}) t partners

-- the subject of a run on a wire that may hold bytes back: it holds none after any call
abbrev pub paced_subject_of : {W : Type 0} → (W → W → List ℕ → Type 0) → (W → ℕ) → (W → List ℕ) → Table → (ℕ → Option ℕ)
    → Subject W
paced_subject_of went failures held t partners = subject_at went failures (λ a. held a ≡ []) t partners

-- the state of a run between two calls
pub record Moment (W : Type 0) : Type 0 where
  pub wire : W
  -- all bytes that went out since the run began
  pub bytes : List ℕ
  pub scene : Scene
  -- the screen that was shown last, and the cursor's mode then
  pub last : Screen
  pub last_mode : Mode

abbrev pub first_moment : {W : Type 0} → Subject W → W → Moment W
first_moment about wire = record {
  wire = wire;
  bytes = [];
  scene = first about.table;
  last = new_screen about.table.rows about.table.cols;
  last_mode = (first about.table).mode;
}

-- the bytes take a terminal from a first state to this one
pub record IsAfter (t : Table) (bytes : List ℕ) (s : State) : Type 0 where
  pub begun : State
  pub fresh : IsFresh t begun
  pub runs : Runs begun bytes s

-- ---- the bytes that a call sends

-- The bytes that a call must send if nothing fails. The terminal is in a state of the kind, the session has this
-- status, and the cursor is shown in the mode `now`, if that is known; the virtual screen and the cursor's mode are
-- those when the sending begins.
abbrev pub Says : Table → (ℕ → Option ℕ) → (State → Type 0) → Status → Option Mode → Screen → Mode → Emission
    → List ℕ → Type 0
Says t partners kind status now v m Nothing bytes = bytes ≡ []
Says t partners kind status now v m Update bytes = Lawful t kind status now bytes (ink_at t partners v) (wanted_of v m)
Says t partners kind status now v m Bell bytes = t.line_of Bel ≡ Some bytes
Says t partners kind status now v m End bytes = bytes ≡ finish_text t status

-- a proper prefix of bytes for which `whole` holds
pub record IsFront (whole : List ℕ → Type 0) (bytes : List ℕ) : Type 0 where
  pub back : List ℕ
  pub is : whole (bytes ++ back)
  pub some_left : 0 < length back

-- the bytes that went out, by the answer: all of them if the call was done, a proper prefix if the wire failed, and
-- none otherwise
abbrev pub Emits : (List ℕ → Type 0) → Answer → List ℕ → Type 0
Emits says Done bytes = says bytes
Emits says WireFailed bytes = IsFront says bytes
Emits says answer bytes = bytes ≡ []

-- ---- the screen shown last, and the most that a refresh sends

-- the virtual screen was shown
abbrev pub is_shown : Emission → Answer → Bool
is_shown Update Done = true
is_shown _ _ = false

-- the screen shown last, after a call
abbrev pub last_after : Emission → Answer → Screen → Screen → Screen
last_after Update Done last v = v
last_after _ _ last v = last

-- the mode in which the cursor was shown last, after a call
abbrev pub mode_after : Emission → Answer → Mode → Mode → Mode
mode_after Update Done last m = m
mode_after _ _ last m = last

-- if the terminal is known and isn't to be cleared: one more than the number of cells that differ from the screen shown
-- last, times the bytes of a cell; otherwise the bytes of a full repaint
abbrev pub most : Table → Status → Bool → Screen → Screen → ℕ
most t Known false last v = (in_lines last v t.cols t.rows + 1) * cell_limit t
most t Known true last v = fresh_limit t
most t _ clear last v = fresh_limit t

-- No cell of the virtual screen differs from the screen shown last, nor does the cursor's mode, and the terminal, in
-- this state, has its cursor at the wanted place, or no place is wanted. Nothing is to be cleared.
pub record IsUnchanged (t : Table) (last : Screen) (last_mode : Mode) (s : State) (v : Screen) (m : Mode) : Type 0 where
  pub same : in_lines last v t.cols t.rows ≡ 0
  pub cursor : IsCursor (place_of v.cursor) s.screen.row s.screen.col
  pub mode : m ≡ last_mode
  pub clear : v.clearok ≡ false

-- ---- the log

-- the scene when the sending begins
abbrev pub scene_at : {W : Type 0} → Subject W → Moment W → Call → Scene
scene_at about before call = (drawn about.table before.scene call).0

-- the bytes that the call must send, whichever state the terminal is in after all that went out before
abbrev pub Due : {W : Type 0} → Subject W → Moment W → Call → List ℕ → Type 0
Due about before call =
    let t = about.table in
    let d = scene_at about before call in
    let now = shown_mode before.scene.status (Some before.last_mode) in
    Says t about.partners (IsAfter t before.bytes) before.scene.status now d.screen d.mode (output_of call)

-- the most that a refresh by this call sends
abbrev pub most_at : {W : Type 0} → Subject W → Moment W → Call → ℕ
most_at about before call =
    let v = (scene_at about before call).screen in
    most about.table before.scene.status v.clearok before.last v

-- nothing differs from the screen shown last, and the terminal is in this state
abbrev pub IsUnchangedAt : {W : Type 0} → Subject W → Moment W → State → Call → Type 0
IsUnchangedAt about before s call =
    let d = scene_at about before call in
    IsUnchanged about.table before.last before.last_mode s d.screen d.mode

-- every terminal that begins in a first state takes all the bytes and is then in a state of this kind
abbrev pub FromFresh : {W : Type 0} → Subject W → List ℕ → (State → Type 0) → Type 0
FromFresh about bytes kind = (s : State) → IsFresh about.table s → Ends s bytes kind

-- the terminal shows the virtual screen of the scene
abbrev pub ShowsScene : {W : Type 0} → Subject W → Scene → State → Type 0
ShowsScene about scene =
    let t = about.table in
    Shows t (ink_at t about.partners scene.screen) (wanted_of scene.screen scene.mode)

-- One call of a run, from one moment to the next, and its entry in the log.
pub record Tells {W : Type 0} (about : Subject W) (before : Moment W) (call : Call) (e : LogEntry)
    (after : Moment W) : Type 0 where
  -- the call was done as it is defined, with the answer of the log
  pub step : CallStep about.table before.scene call e.answer after.scene
  -- the bytes that went out in it; the log counts all bytes since the run began
  pub piece : List ℕ
  pub went : about.went before.wire after.wire piece
  pub bytes : after.bytes ≡ before.bytes ++ piece
  pub counted : e.sent ≡ length after.bytes
  -- the piece is all that the call must send, a proper prefix of it if the call was cut short, and nothing if it was
  -- refused
  pub emits : Emits (Due about before call) e.answer piece
  -- nothing is held back after it, if the subject promises that
  pub rests : about.rests after.wire
  -- no call is cut short but by a wire that failed in it
  pub failed : e.answer ≡ WireFailed → Rose (about.failures before.wire) (about.failures after.wire)
  -- the terminal takes all that went out so far, and is one from which the next refresh can go on
  pub takes : FromFresh about after.bytes (IsLost about.table)
  -- after a refresh that was done, the terminal shows the virtual screen
  pub shows : is_shown (output_of call) e.answer ≡ true → FromFresh about after.bytes (ShowsScene about after.scene)
  -- a refresh keeps its bound, done or cut short
  pub bound : output_of call ≡ Update → length piece ≤ most_at about before call
  -- a refresh sends nothing if the terminal is known and nothing differs from the screen shown last, with the cursor
  -- where the bytes sent before have left it
  pub idle : output_of call ≡ Update → before.scene.status ≡ Known → (s : State) → IsAfter about.table before.bytes s
      → IsUnchangedAt about before s call → piece ≡ []
  -- the screen shown last, and the cursor's mode then
  pub last : after.last ≡ last_after (output_of call) e.answer before.last after.scene.screen
  pub last_mode : after.last_mode ≡ mode_after (output_of call) e.answer before.last_mode after.scene.mode

-- The calls are played in turn from this moment on, with one entry for each. After the last one, nothing more goes out
-- up to the wire `new`; `bytes` are all the bytes.
abbrev pub Plays : {W : Type 0} → Subject W → Moment W → List Call → List LogEntry → W → List ℕ → Type 0
Plays about before [] [] new bytes = about.went before.wire new [] × (bytes ≡ before.bytes)
Plays about before [] (e ∷ log) new bytes = ⊥
Plays about before (call ∷ calls) [] new bytes = ⊥
Plays {W} about before (call ∷ calls) (e ∷ log) new bytes =
    (after : Moment W) × Tells about before call e after × Plays about after calls log new bytes

-- a run: all that went out, and one entry for each call
pub record Ran {W : Type 0} (about : Subject W) (old new : W) (calls : List Call) (log : List LogEntry) : Type 0 where
  pub bytes : List ℕ
  pub sent : about.went old new bytes
  pub counted : length log ≡ length calls
  pub plays : Plays about (first_moment about old) calls log new bytes

-- a run whose log isn't kept
pub record HasRun {W : Type 0} (about : Subject W) (old new : W) (calls : List Call) : Type 0 where
  pub log : List LogEntry
  pub ran : Ran about old new calls log
