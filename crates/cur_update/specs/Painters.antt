-- A painter as its caller sees it: its certificate, the screen that was shown last, the knowledge of the terminal, and
-- the cursor's mode that was set last (X/Open Curses Issue 7, refresh, curs_set, beep).
use Rattle.std.specs.Prelude.{ℕ, ℤ, ◌≡◌, ◌==◌, ◌&&◌, Bool, Option, Some, None, Result, Ok, Err, if◌then◌else◌}
use Rattle.grids.specs.declared.areas.Place.{Place as ScreenPlace}
use Rattle.ti_rows.specs.declared.rows.Row.TheVariants.{Civis, Cnorm}
use Rattle.cur_drawing.specs.Windows.{place_below}
use Rattle.cur_drawing.specs.declared.refusals.Refusal.{Refusal}
use Rattle.cur_drawing.specs.declared.refusals.Refusal.TheVariants.{BadRegion, NoCap}
use Rattle.cur_screens.specs.VirtualScreen.{Screen}
use Rattle.ti_conforms.specs.Certified.{Table, has}
use Rattle.cur_steps.specs.Beliefs.{CanHide}
use Rattle.cur_steps.specs.declared.beliefs.Place.{Place}
use Rattle.cur_steps.specs.declared.beliefs.Mode.{Mode}
use Rattle.cur_steps.specs.declared.beliefs.Mode.TheVariants.{Hidden, Normal, Prominent}
use Rattle.cur_paint.specs.declared.updates.Knowledge.{Knowledge}
use Rattle.cur_paint.specs.declared.updates.Wanted.{Wanted}

pub record Painted (C : Type 0) : Type 0 where
  pub checked : C
  -- the screen of the last refresh that was done
  pub shown : Screen
  pub session : Knowledge
  -- the mode that was set last, shown or not
  pub mode : Mode

-- the screen has the terminal's size, and a hidden cursor can be shown again
pub record IsPainter (t : Table) (v : Screen) (m : Mode) : Type 0 where
  pub rows : v.rows ≡ t.rows
  pub cols : v.cols ≡ t.cols
  pub mode : CanHide t m

abbrev pub place_of : Option ScreenPlace → Option Place
place_of None = None
place_of (Some p) = Some (record { row = p.row; col = p.col })

-- the wanted state of the terminal beside the cells
abbrev pub wanted_of : Screen → Mode → Wanted
wanted_of v m = record { cursor = place_of v.cursor; mode = m; clear = v.clearok }

abbrev pub mode_number : Mode → ℕ
mode_number Hidden = 0
mode_number Normal = 1
mode_number Prominent = 2

abbrev pub mode_of : ℕ → Mode
mode_of n = if n == 0 then Hidden else (if n == 1 then Normal else Prominent)

abbrev pub Step : Type 0
Step = Mode × Result ℕ Refusal

-- the step to a mode: the mode after it, and the mode before or the refusal
abbrev pub with_mode : Bool → Option ℕ → Mode → Step
with_mode can None m = (m, Err BadRegion)
with_mode can (Some n) m = if can then (mode_of n, Ok (mode_number m)) else (m, Err NoCap)

-- curs_set: 0 to 2, for entries that can hide the cursor and show it again
abbrev pub set_mode : Table → ℤ → Mode → Step
set_mode t n m = with_mode (has t Civis && has t Cnorm) (place_below n 3) m
