-- The step of each call, and its answer (X/Open Curses Issue 7, the reference pages of the calls).
use Rattle.std.specs.Prelude.{ℕ, ℤ, ◌≡◌, Bool, true, false, Result, Ok, Err}
use Rattle.ti_rows.specs.declared.rows.Row.TheVariants.{Bel}
use Rattle.cur_drawing.specs.declared.refusals.Refusal.{Refusal}
use Rattle.cur_drawing.specs.declared.refusals.Refusal.TheVariants.{NoMemory, NoCap, IsLost}
use Rattle.cur_windows.specs.Desks as desks
use Rattle.cur_screens.specs.VirtualScreen as screens
use Rattle.cur_windows.specs.Refreshes as refreshes
use Rattle.cur_drawing.specs.Calls as call
use Rattle.cur_windows.specs.Creations as make
use Rattle.cur_windows.specs.Copies as copy
use Rattle.cur_pads.specs.Creations as pads
use Rattle.cur_pads.specs.Displays.{pnoutrefresh}
use Rattle.ti_conforms.specs.Certified.{IsChecked, Table, has}
use Rattle.cur_steps.specs.declared.beliefs.Mode.{Mode}
use Rattle.cur_paint.specs.declared.updates.Status.{Status}
use Rattle.cur_paint.specs.declared.updates.Status.TheVariants.{Fresh, Known, Lost}
use Rattle.cur_update.specs.Painters.{set_mode}
use Rattle.cur_scripts.specs.declared.calls.Call.{Call}
use Rattle.cur_scripts.specs.declared.calls.Call.TheVariants.{Newwin, Newpad, Part, Dupwin, Plain}
use Rattle.cur_scripts.specs.declared.calls.Call.TheVariants.{Number, Numbers, Flag}
use Rattle.cur_scripts.specs.declared.calls.Call.TheVariants.{Attributes, Cell, Addstr, Line, DrawBorder, DrawBox, Lay}
use Rattle.cur_scripts.specs.declared.calls.Call.TheVariants.{Copywin, Show, ShowPad, Screen, CursSet, InitPair}
use Rattle.cur_scripts.specs.declared.groups.ShowCall.{ShowCall}
use Rattle.cur_scripts.specs.declared.groups.ShowCall.TheVariants.{Noutrefresh, Refresh}
use Rattle.cur_scripts.specs.declared.groups.PadCall.{PadCall}
use Rattle.cur_scripts.specs.declared.groups.PadCall.TheVariants.{Pnoutrefresh, Prefresh}
use Rattle.cur_scripts.specs.declared.groups.ScreenCall.{ScreenCall}
use Rattle.cur_scripts.specs.declared.groups.ScreenCall.TheVariants.{Doupdate, Beep, Endwin}
use Rattle.cur_play.specs.Scenes.{IsStage, Scene, Stage}
use Rattle.cur_play.specs.Windows as windows
use Rattle.cur_play.specs.Windows.{takes_memory}
use Rattle.cur_play.specs.declared.answers.Answer.{Answer}
use Rattle.cur_play.specs.declared.answers.Answer.TheVariants.{Done, Was, Refused, WireFailed}
use Rattle.cur_play.specs.declared.sends.Emission.{Emission}
use Rattle.cur_play.specs.declared.sends.Emission.TheVariants.{Nothing, Update, Bell, End}

-- the scene after a call, and its answer
abbrev pub Step : Type 0
Step = Scene × Answer

abbrev pub answer_of : Result (Unit {0}) Refusal → Answer
answer_of (Ok x) = Done
answer_of (Err r) = Refused r

abbrev pub mode_answer : Result ℕ Refusal → Answer
mode_answer (Ok n) = Was n
mode_answer (Err r) = Refused r

abbrev pub on_desk : Scene → desks.DeskStep → Step
on_desk s x = (record s { desk = x.0 }, answer_of x.1)

abbrev pub on_screen : Scene → screens.Screen × Result (Unit {0}) Refusal → Step
on_screen s x = (record s { screen = x.0 }, answer_of x.1)

abbrev pub on_both : Scene → refreshes.Refresh → Step
on_both s x = (record s { desk = x.0; screen = x.1 }, answer_of x.2)

abbrev pub on_mode : Scene → Mode × Result ℕ Refusal → Step
on_mode s x = (record s { mode = x.0 }, mode_answer x.1)

-- the scene after a call, before it sends anything: `refresh` and `prefresh` copy; a call that only sends draws nothing
abbrev pub drawn : Table → Scene → Call → Step
drawn t s (Newwin n lines cols y x) = on_desk s (make.newwin s.desk n lines cols y x)
drawn t s (Newpad n lines cols) = on_desk s (pads.newpad s.desk n lines cols)
drawn t s (Part k n w lines cols y x) = on_desk s (windows.part_step k s.desk n w lines cols y x)
drawn t s (Dupwin n w) = on_desk s (make.dupwin s.desk n w)
drawn t s (Plain k n) = on_desk s (windows.plain_step k s.desk n)
drawn t s (Number k n x) = on_desk s (windows.number_step k s.desk n x)
drawn t s (Numbers k n x y) = on_desk s (windows.numbers_step k s.desk n x y)
drawn t s (Flag k n on) = on_desk s (windows.flag_step k s.desk n on)
drawn t s (Attributes k n a) = on_desk s (windows.attributes_step k s.desk n a)
drawn t s (Cell k n p) = on_desk s (windows.cell_step k s.desk n p)
drawn t s (Addstr n text) = on_desk s (desks.on_window s.desk n (call.added_all text))
drawn t s (Line k n p x) = on_desk s (windows.line_step k s.desk n p x)
drawn t s (DrawBorder n b) = on_desk s (desks.on_grid s.desk n (call.bordered b))
drawn t s (DrawBox n v h) = on_desk s (desks.on_grid s.desk n (call.bordered (call.box_of v h)))
drawn t s (Lay k from to) = on_desk s (copy.common_part (windows.skips k) s.desk from to)
drawn t s (Copywin skip from to from_row from_col row col last_row last_col) =
    on_desk s (copy.copywin s.desk from to from_row from_col row col last_row last_col skip)
drawn t s (Show k n) = on_both s (refreshes.noutrefresh s.desk s.screen n)
drawn t s (ShowPad k n row col top left bottom right) =
    on_both s (pnoutrefresh s.desk s.screen n row col top left bottom right)
drawn t s (Screen k) = (s, Done)
drawn t s (CursSet n) = on_mode s (set_mode t n s.mode)
drawn t s (InitPair p f b) = on_screen s (screens.init_pair p f b s.screen)

-- a call that isn't among those of a list, and sends nothing: a pair gets its colors, where -1 is the terminal's
-- default
abbrev pub recolored : {C : Type 0} → ℤ → ℤ → ℤ → Stage C → Stage C × Answer
recolored p f b s =
    let x = screens.init_pair_or_default p f b s.screen in
    (record s { screen = x.0 }, answer_of x.1)

-- another such call: the lines from `top` to `bottom` of a window are copied to the virtual screen
abbrev pub lines_shown : {C : Type 0} → ℕ → ℤ → ℤ → Stage C → Stage C × Answer
lines_shown n top bottom s =
    let x = refreshes.noutrefresh_lines s.desk s.screen n top bottom in
    (record s { desk = x.0; screen = x.1 }, answer_of x.2)

-- a call by itself that has this step on windows alone, and sends nothing
abbrev pub alone : {C : Type 0} → desks.DeskStep → Stage C → Stage C × Answer
alone x s = (record s { desk = x.0 }, answer_of x.1)

-- such a call on a session: windows and screen were legal, and the certificate verified
pub record DoesAlone {C : Type 0} (table : C → Table) (x : desks.DeskStep) (before : Stage C) (answer : Answer)
    (after : Stage C) : Type 0 where
  pub step : (after, answer) ≡ alone x before
  pub stage : IsStage (table before.painter.checked) before.desk before.screen
  pub checked : IsChecked (table before.painter.checked)

abbrev pub shown_window : ShowCall → Emission
shown_window Noutrefresh = Nothing
shown_window Refresh = Update

abbrev pub shown_pad : PadCall → Emission
shown_pad Pnoutrefresh = Nothing
shown_pad Prefresh = Update

abbrev pub screen_output : ScreenCall → Emission
screen_output Doupdate = Update
screen_output Beep = Bell
screen_output Endwin = End

-- the output of each call: a refresh of the virtual screen, the bell, the end of the program's screen, or nothing
abbrev pub output_of : Call → Emission
output_of (Newwin n lines cols y x) = Nothing
output_of (Newpad n lines cols) = Nothing
output_of (Part k n w lines cols y x) = Nothing
output_of (Dupwin n w) = Nothing
output_of (Plain k n) = Nothing
output_of (Number k n x) = Nothing
output_of (Numbers k n x y) = Nothing
output_of (Flag k n on) = Nothing
output_of (Attributes k n a) = Nothing
output_of (Cell k n p) = Nothing
output_of (Addstr n text) = Nothing
output_of (Line k n p x) = Nothing
output_of (DrawBorder n b) = Nothing
output_of (DrawBox n v h) = Nothing
output_of (Lay k from to) = Nothing
output_of (Copywin skip from to from_row from_col row col last_row last_col) = Nothing
output_of (Show k n) = shown_window k
output_of (ShowPad k n row col top left bottom right) = shown_pad k
output_of (Screen k) = screen_output k
output_of (CursSet n) = Nothing
output_of (InitPair p f b) = Nothing

-- the bell needs its string, and a terminal that isn't lost
abbrev pub rung : Bool → Status → Answer
rung false status = Refused NoCap
rung true Lost = Refused IsLost
rung true Known = Done
rung true Fresh = Done

-- the step of sending, if everything goes out
abbrev pub sent : Table → Emission → Scene → Step
sent t Nothing s = (s, Done)
sent t Update s = (record s { screen = screens.refreshed s.screen; status = Known }, Done)
sent t Bell s = (s, rung (has t Bel) s.status)
sent t End s = (record s { status = Fresh }, Done)

-- a refused call sends nothing
abbrev pub then_sent : Table → Emission → Step → Step
then_sent t o (s, Done) = sent t o s
then_sent t o (s, Was n) = (s, Was n)
then_sent t o (s, Refused r) = (s, Refused r)
then_sent t o (s, WireFailed) = (s, WireFailed)

abbrev pub call_step : Table → Scene → Call → Step
call_step t s c = then_sent t (output_of c) (drawn t s c)

abbrev pub is_sent : Emission → Bool
is_sent Nothing = false
is_sent Update = true
is_sent Bell = true
is_sent End = true

-- One call: it is as defined; or there was no memory for the window that it makes; or the wire failed, and then
-- everything that the call draws is done, and the session is lost.
pub data CallStep (t : Table) (before : Scene) (call : Call) (answer : Answer) (after : Scene) : Type 0 where
  Stepped : (after, answer) ≡ call_step t before call → CallStep t before call answer after
  NoRoom : takes_memory call ≡ true → (call_step t before call).1 ≡ Done → answer ≡ Refused NoMemory → after ≡ before
      → CallStep t before call answer after
  Failed : is_sent (output_of call) ≡ true → (call_step t before call).1 ≡ Done → answer ≡ WireFailed
      → after ≡ record (drawn t before call).0 { status = Lost }
      → CallStep t before call answer after
