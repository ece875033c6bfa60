-- A session: windows, the virtual screen, the mode of the cursor, and what is known of the terminal (X/Open Curses
-- Issue 7, initscr, refresh, curs_set).
use Rattle.std.specs.Prelude.{◌≡◌}
use Rattle.cur_windows.specs.Desks.{State, new_desk}
use Rattle.cur_screens.specs.VirtualScreen.{Screen, new_screen}
use Rattle.ti_conforms.specs.Certified.{Table}
use Rattle.cur_steps.specs.declared.beliefs.Mode.{Mode}
use Rattle.cur_steps.specs.declared.beliefs.Mode.TheVariants.{Normal}
use Rattle.cur_paint.specs.declared.updates.Status.{Status}
use Rattle.cur_paint.specs.declared.updates.Status.TheVariants.{Fresh, Lost}
use Rattle.cur_update.specs.Painters.{Painted}

-- the state on which calls work
pub record Scene : Type 0 where
  pub desk : State
  pub screen : Screen
  -- the mode that was set last, shown or not
  pub mode : Mode
  pub status : Status

-- at first: window 0 alone, a blank screen, a visible cursor, and nothing was sent
abbrev pub first : Table → Scene
first t = record { desk = new_desk t.rows t.cols; screen = new_screen t.rows t.cols; mode = Normal; status = Fresh }

-- a session, with all that its painter knows
pub record Stage (C : Type 0) : Type 0 where
  pub desk : State
  pub screen : Screen
  pub painter : Painted C

abbrev pub stage_of : {C : Type 0} → State → Screen → Painted C → Stage C
stage_of d v p = record { desk = d; screen = v; painter = p }

abbrev pub scene_of : {C : Type 0} → Stage C → Scene
scene_of p = record { desk = p.desk; screen = p.screen; mode = p.painter.mode; status = p.painter.session.status }

-- desk and virtual screen have the terminal's size
pub record IsStage (t : Table) (d : State) (v : Screen) : Type 0 where
  pub rows : v.rows ≡ t.rows
  pub cols : v.cols ≡ t.cols
  pub desk_rows : d.rows ≡ t.rows
  pub desk_cols : d.cols ≡ t.cols

-- a lost session: nothing is known of the terminal any more
abbrev pub lost_stage : {C : Type 0} → Stage C → Stage C
lost_stage p = record p { painter = record p.painter { session = record p.painter.session { status = Lost } } }
