-- (Serves the code alone.) The places where a copy may differ from its original.
use Rattle.cur_drawing.specs.Grids.{Grid}
use Rattle.cur_screens.specs.Marks.{AreSame}
use Rattle.cur_windows.specs.Desks.{State}
use Rattle.cur_windows.specs.TouchedWindows.{ShowsBut}
use Rattle.cur_screens.specs.VirtualScreen.{Screen}
use Rattle.cur_play.specs.declared.stale_marks.StaleMarks.{StaleMarks}

-- outside the marks, the virtual screen has the cells of each grid, and the screen shown last has those of the virtual
-- screen
pub record IsKnown (c : StaleMarks) (d : State) (v : Screen) (shown : Grid) : Type 0 where
  pub window : ShowsBut c.window d v.grid
  pub screen : AreSame c.screen shown v.grid
