-- Requirements and effects of copies between grids.
use Rattle.std.specs.Prelude.{◌+◌, ◌<◌, ◌≡◌}
use Rattle.grids.specs.declared.areas.Area.{Area}
use Rattle.cur_drawing.specs.Grids.{Fits, Grid, copied, moved_to, shape_of}
use Rattle.cur_drawing.specs.Spans.{ArePlaces}
use Rattle.cur_screens.specs.Marks.{Keeps, Marking, MarksOnly}
use Rattle.cur_screens.specs.declared.copies.AreaCopy.{AreaCopy}

-- the copied rectangle is in the grid s, and the places of both rectangles can be numbered
pub record IsFrom (copy : AreaCopy) (s : Grid) : Type 0 where
  pub source : Fits (moved_to copy.area copy.from) s
  pub places : ArePlaces copy.area copy.from

-- the grid g, which becomes h, gets cells of the grid s, and the marks m, which become n, follow its changes
pub record CopiesMarking (copy : AreaCopy) (s g h : Grid) (m n : Marking) : Type 0 where
  pub value : h ≡ copied copy.area copy.from s g
  pub shape : shape_of h ≡ shape_of g
  pub marked : Keeps m g n h
  pub only : MarksOnly m g n h

-- the rectangle begins at the first column, and is in both grids
pub record IsInBoth (a : Area) (s g : Grid) : Type 0 where
  pub left : a.left ≡ 0
  pub short : a.top + a.rows < 65536
  pub target : Fits a g
  pub source : Fits a s
