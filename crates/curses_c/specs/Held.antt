-- The effect of a program's calls on the session that its handle holds.
use Rattle.std.specs.Prelude.{ℕ, ℤ, ◌+◌, ◌≡◌, ◌⊎◌, Bool, true, false, List, [], ◌∷◌, Option, Some, None, Result, Ok}
use Rattle.std.specs.Prelude.{Err, min, length, drop, pos, if◌then◌else◌}
use Rattle.ti_cert.specs.Table.{certified}
use Rattle.ti_cert.specs.Verified.{partner_in}
use Rattle.ti_conforms.specs.Certified.{IsChecked}
use Rattle.cur_scripts.specs.Texts.{only_call, script_of}
use Rattle.cur_scripts.specs.declared.calls.Call.{Call}
use Rattle.cur_scripts.specs.declared.groups.AttrsCall.{AttrsCall}
use Rattle.cur_scripts.specs.declared.faults.ScriptFault.{ScriptFault}
use Rattle.cur_scripts.specs.declared.faults.ScriptFaultKind.{ScriptFaultKind}
use Rattle.cur_scripts.specs.declared.faults.ScriptFaultKind.TheVariants.{BadLine, TooLong, NoMemory}
use Rattle.cur_play.specs.Deliveries.{Carries}
use Rattle.cur_play.specs.Outputs.{poised}
use Rattle.cur_play.specs.Scenes.{first, lost_stage, scene_of}
use Rattle.cur_play.specs.Steps.{CallStep, drawn, lines_shown, output_of, recolored}
use Rattle.cur_play.specs.declared.answers.Answer.{Answer}
use Rattle.cur_play.specs.declared.answers.Answer.TheVariants.{Done, Was, Refused, WireFailed}
use Rattle.curses_c.specs.Codes.{answer_code, failure_code, script_code}
use Rattle.curses_c.specs.Lines.{line_of}
use Rattle.curses_c.specs.Outbox.{Posted, Posts}
use Rattle.curses_c.specs.Requests.{call_of, styled}
use Rattle.curses_c.specs.declared.codes.Failure.TheVariants.{BadCall}
use Rattle.curses_c.specs.declared.held.Held.{Held}
use Rattle.curses_c.specs.declared.requests.Request.{Request}

abbrev pub failures_of : Posted → ℕ
failures_of o = o.failures

-- a session that has sent nothing
pub record IsBegun (h : Held) : Type 0 where
  pub scene : scene_of h.session ≡ first (certified h.session.painter.checked)
  pub nothing : h.outbox.waiting ≡ []
  pub failed : h.failed ≡ 0
  pub checked : IsChecked (certified h.session.painter.checked)

-- one call: it is done as defined, and the bytes that it sends wait after those that waited before
pub record Makes (h : Held) (call : Call) (answer : Answer) (k : Held) : Type 0 where
  pub step : CallStep (certified h.session.painter.checked) (scene_of h.session) call answer (scene_of k.session)
  pub carries : Carries Posts failures_of h.outbox k.outbox (certified h.session.painter.checked)
      (partner_in h.session.painter.checked)
      (drawn (certified h.session.painter.checked) (scene_of h.session) call).0.screen (output_of call) answer
      (poised (certified h.session.painter.checked) h.session call) k.session.painter
  pub certificate : k.session.painter.checked ≡ h.session.painter.checked
  pub left_out : k.left_out ≡ h.left_out

-- one call that is no line of a text: the noted line stays, and the number is that of the answer
abbrev pub MakesAlone : Call → Held → ℤ → Held → Type 0
MakesAlone call h code k =
    (answer : Answer) × Makes h call answer k × (k.failed ≡ h.failed) × (code ≡ answer_code answer)

-- the call that numbers encode; if they encode none, nothing changes
abbrev pub MakesIfCall : Option Call → Held → ℤ → Held → Type 0
MakesIfCall (Some call) h code k = MakesAlone call h code k
MakesIfCall None h code k = (k ≡ h) × (code ≡ failure_code BadCall)

abbrev pub Does : Request → Held → ℤ → Held → Type 0
Does request h code k = MakesIfCall (call_of request) h code k

-- a call for the attributes that a number encodes
abbrev pub Styles : AttrsCall → ℕ → ℤ → Held → ℤ → Held → Type 0
Styles call window attrs h code k = MakesIfCall (styled call window attrs) h code k

abbrev pub is_done : Answer → Bool
is_done Done = true
is_done (Was n) = true
is_done (Refused r) = false
is_done WireFailed = false

-- the first call that isn't done is the last one made
abbrev pub Then : Bool → Answer → ℕ → Answer → Held → Held → (ℕ → Type 0) → Type 0
Then true answer n a mid k Rest = (more : ℕ) × (n ≡ more + 1) × Rest more
Then false answer n a mid k Rest = (n ≡ 0) × (a ≡ answer) × (k ≡ mid)

-- calls up to the first that isn't done: the number of those done before it, and its answer; if all are done, their
-- number and `Done`
abbrev pub MakesUpTo : Held → List Call → ℕ → Answer → Held → Type 0
MakesUpTo h [] n a k = (n ≡ 0) × (a ≡ Done) × (k ≡ h)
MakesUpTo h (call ∷ calls) n a k =
    (answer : Answer) × (mid : Held) × Makes h call answer mid
    × Then (is_done answer) answer n a mid k (λ more. MakesUpTo mid calls more a k)

-- a pair gets its colors, where -1 is the terminal's default; nothing is sent, and the noted line stays
abbrev pub Recolors : ℤ → ℤ → ℤ → Held → Answer → Held → Type 0
Recolors p f b h answer k =
    let x = recolored p f b h.session in
    (k ≡ record h { session = x.0 }) × (answer ≡ x.1)

abbrev pub RecolorsAs : ℤ → ℤ → ℤ → Held → ℤ → Held → Type 0
RecolorsAs p f b h code k = (answer : Answer) × Recolors p f b h answer k × (code ≡ answer_code answer)

-- lines of a window are copied to the virtual screen; nothing is sent, and the noted line stays
abbrev pub CopiesLines : ℕ → ℤ → ℤ → Held → Answer → Held → Type 0
CopiesLines n top bottom h answer k =
    let x = lines_shown n top bottom h.session in
    (k ≡ record h { session = x.0 }) × (answer ≡ x.1)

abbrev pub CopiesLinesAs : ℕ → ℤ → ℤ → Held → ℤ → Held → Type 0
CopiesLinesAs n top bottom h code k =
    (answer : Answer) × CopiesLines n top bottom h answer k × (code ≡ answer_code answer)

-- this line becomes the noted one; nothing else changes
abbrev pub noting : ℕ → Held → Held
noting line h = record h { failed = line }

-- the line of the call of a text that isn't done, given how many were done before it; 0 if all are done
abbrev pub line_left : List ℕ → ℕ → Answer → ℕ
line_left text done answer = if is_done answer then 0 else line_of text done

-- a text's calls are made up to the first that isn't done; its line is noted, and the number is that of its answer
pub record Plays (text : List ℕ) (calls : List Call) (h : Held) (code : ℤ) (k : Held) : Type 0 where
  pub done : ℕ
  pub answer : Answer
  pub last : Held
  pub makes : MakesUpTo h calls done answer last
  pub noted : k ≡ noting (line_left text done answer) last
  pub number : code ≡ answer_code answer

-- a lack of memory has no line
abbrev pub fault_line : ScriptFaultKind → ℕ → ℕ
fault_line BadLine line = line
fault_line TooLong line = line
fault_line NoMemory line = 0

-- the calls that a text lists are made; if it has a fault, only the line is noted
abbrev pub SaysRead : List ℕ → Result (List Call) ScriptFault → Held → ℤ → Held → Type 0
SaysRead text (Ok calls) h code k = Plays text calls h code k
SaysRead text (Err fault) h code k = (k ≡ noting fault.line h) × (code ≡ script_code fault.kind)

-- A text's calls are made so; or there was no memory for reading it, which never happens if it is one call.
abbrev pub Says : List ℕ → Held → ℤ → Held → Type 0
Says text h code k =
    SaysRead text (script_of text) h code k ⊎ ((only_call text ≡ None) × (k ≡ noting 0 h) × (code ≡ pos 12))

-- no bytes wait, and nothing is known of the terminal
pub record Loses (h k : Held) : Type 0 where
  pub session : k.session ≡ lost_stage h.session
  pub waiting : k.outbox.waiting ≡ []
  pub failed : k.failed ≡ h.failed
  pub left_out : k.left_out ≡ h.left_out

-- the first waiting bytes are handed out, as many as there is room for
pub record Hands (h : Held) (room : List ℕ) (count : ℕ) (k : Held) : Type 0 where
  pub session : k.session ≡ h.session
  pub counted : count ≡ min (length room) (length h.outbox.waiting)
  pub rest : k.outbox.waiting ≡ drop count h.outbox.waiting
  pub failed : k.failed ≡ h.failed
  pub left_out : k.left_out ≡ h.left_out

-- the content of an open handle changes so; a closed handle stays closed
abbrev pub Changes : (Held → Held → Type 0) → Option Held → Option Held → Type 0
Changes R (Some h) (Some k) = R h k
Changes R (Some h) None = ⊥
Changes R None (Some k) = ⊥
Changes R None None = Unit {0}
