-- (Serves the code alone.) The calls in groups, as the code goes through them: the answer to a call of a group, or none
-- for a call of another one. `Steps.drawn` has the meaning of each call.
use Rattle.std.specs.Prelude.{◌≡◌, ◌⊎◌, Bool, true, Option, Some, None, Result, Ok, Err}
use Rattle.cur_drawing.specs.Calls as call
use Rattle.cur_screens.specs.VirtualScreen as screens
use Rattle.cur_windows.specs.Creations as make
use Rattle.cur_windows.specs.Copies as copy
use Rattle.cur_windows.specs.Refreshes as refreshes
use Rattle.cur_pads.specs.Creations as pads
use Rattle.cur_pads.specs.Displays.{pnoutrefresh}
use Rattle.ti_conforms.specs.Certified.{Table}
use Rattle.cur_update.specs.Painters.{set_mode}
use Rattle.cur_scripts.specs.declared.calls.Call.{Call}
use Rattle.cur_scripts.specs.declared.calls.Call.TheVariants.{Newwin, Newpad, Part, Dupwin, Plain}
use Rattle.cur_scripts.specs.declared.calls.Call.TheVariants.{Number, Numbers, Flag}
use Rattle.cur_scripts.specs.declared.calls.Call.TheVariants.{Attributes, Cell, Addstr, Line, DrawBorder, DrawBox, Lay}
use Rattle.cur_scripts.specs.declared.calls.Call.TheVariants.{Copywin, Show, ShowPad, CursSet, InitPair}
use Rattle.cur_play.specs.Scenes.{Scene}
use Rattle.cur_play.specs.Steps.{Step, on_both, on_mode, on_screen}
use Rattle.cur_play.specs.Windows.{attributes_step, cell_step, flag_step, line_step, number_step, numbers_step}
use Rattle.cur_play.specs.Windows.{part_step, plain_step, skips}
use Rattle.cur_play.specs.declared.answers.Answer.TheVariants.{Done}
use Rattle.cur_drawing.specs.declared.refusals.Refusal.{Refusal}
use Rattle.cur_drawing.specs.declared.refusals.Refusal.TheVariants.{NoMemory}
use Rattle.cur_windows.specs.Desks.{State, DeskStep, on_grid, on_window, step}

abbrev pub Does : State → State → Option (Result (Unit {0}) Refusal) → Option DeskStep → Type 0
Does d e (Some r) (Some x) = step e r ≡ x
Does d e (Some r) None = ⊥
Does d e None (Some x) = ⊥
Does d e None None = e ≡ d

-- there was no memory for what the step makes
pub record NoRoomFor (d e : State) (r : Result (Unit {0}) Refusal) (needs : Bool) (x : DeskStep) : Type 0 where
  pub refused : r ≡ Err NoMemory
  pub same : e ≡ d
  pub takes : needs ≡ true
  pub done : x.1 ≡ Ok tt

-- as `Does`, for a call that may also be refused for lack of memory
abbrev pub Makes : State → State → Option (Result (Unit {0}) Refusal) → Bool → Option DeskStep → Type 0
Makes d e (Some r) takes (Some x) = NoRoomFor d e r takes x ⊎ (step e r ≡ x)
Makes d e (Some r) takes None = ⊥
Makes d e None takes (Some x) = ⊥
Makes d e None takes None = e ≡ d

-- the step of a call that makes a window, and none of any other call
abbrev pub making : State → Call → Option DeskStep
making d (Newwin n lines cols y x) = Some (make.newwin d n lines cols y x)
making d (Newpad n lines cols) = Some (pads.newpad d n lines cols)
making d (Part k n w lines cols y x) = Some (part_step k d n w lines cols y x)
making d (Dupwin n w) = Some (make.dupwin d n w)
making d _ = None

-- the step of a call that draws lines, or copies from one window to another
abbrev pub shaping : State → Call → Option DeskStep
shaping d (Line k n p x) = Some (line_step k d n p x)
shaping d (DrawBorder n b) = Some (on_grid d n (call.bordered b))
shaping d (DrawBox n v h) = Some (on_grid d n (call.bordered (call.box_of v h)))
shaping d (Lay k s t) = Some (copy.common_part (skips k) d s t)
shaping d (Copywin skip s t from_row from_col row col last_row last_col) =
    Some (copy.copywin d s t from_row from_col row col last_row last_col skip)
shaping d _ = None

-- the step of a call that changes windows, or deletes one
abbrev pub changing : State → Call → Option DeskStep
changing d (Plain k n) = Some (plain_step k d n)
changing d (Number k n x) = Some (number_step k d n x)
changing d (Numbers k n x y) = Some (numbers_step k d n x y)
changing d (Flag k n on) = Some (flag_step k d n on)
changing d (Attributes k n a) = Some (attributes_step k d n a)
changing d (Cell k n p) = Some (cell_step k d n p)
changing d (Addstr n text) = Some (on_window d n (call.added_all text))
changing d other = shaping d other

-- the step of a call on more than windows; those that only send draw nothing
abbrev pub showing : Table → Scene → Call → Step
showing t s (Show k n) = on_both s (refreshes.noutrefresh s.desk s.screen n)
showing t s (ShowPad k n row col top left bottom right) =
    on_both s (pnoutrefresh s.desk s.screen n row col top left bottom right)
showing t s (CursSet n) = on_mode s (set_mode t n s.mode)
showing t s (InitPair p f b) = on_screen s (screens.init_pair p f b s.screen)
showing t s _ = (s, Done)
