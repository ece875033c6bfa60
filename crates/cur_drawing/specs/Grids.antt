-- Grids of cells: a window's or the virtual screen's. A place without a cell reads as a space.
use Rattle.std.specs.Prelude.{ℕ, Bool, List, if◌then◌else◌}
use Rattle.grids.specs.declared.areas.Area.{Area}
use Rattle.grids.specs.declared.areas.Place.{Place}
use Rattle.grids.specs.Grids as base
use Rattle.cur_drawing.specs.Cells.{Content, space, restyled, unless_space}
pub use Rattle.grids.specs.Grids.{line_at, line_drawn, drawn_from, drawn, is_in, drawn_in, filled, taken, copied}
pub use Rattle.grids.specs.Grids.{redrawn, shifted, combined, merged, one, row_of, moved_to, part_written, Fits}
pub use Rattle.grids.specs.Grids.{shape_of}

abbrev pub Grid : Type 0
Grid = List (List Content)

abbrev pub cell_at : Grid → ℕ → ℕ → Content
cell_at g i j = base.cell_at space g i j

-- a new grid
abbrev pub blank : ℕ → ℕ → Grid
blank rows cols = base.uniform rows cols space

-- the rectangle's cells change from one background to another
abbrev pub recolored : Area → Content → Content → Grid → Grid
recolored a was new g = redrawn a (restyled was new) g

-- the rectangle gets the cells of the source from a place on, except for spaces if these are skipped; the source may
-- be the grid itself, and is read as it was before
abbrev pub overlaid : Area → Place → Bool → Grid → Grid → Grid
overlaid a from skip source g = if skip then merged a from unless_space source g else copied a from source g
