-- The places of the display, line by line. Rows and columns count from 0.
use Rattle.std.specs.Prelude.{ℕ, List}
use Rattle.grids.specs.Grids.{cell_at, filled, one}
use Rattle.vt_screen.specs.Look.{Look, space}
pub use Rattle.grids.specs.Grids.{uniform, line_at, line_drawn, drawn_from, drawn, scrolled_up, scrolled_down}
pub use Rattle.grids.specs.Grids.{part_filled, cells_inserted, cells_deleted, line_changed, lines_filled, written}
pub use Rattle.grids.specs.Grids.{HasEvenLines}

abbrev pub Grid : Type 0
Grid = List (List Look)

abbrev pub look_at : Grid → ℕ → ℕ → Look
look_at g i j = cell_at space g i j

-- the cell at one place becomes x
abbrev pub put : ℕ → ℕ → Look → Grid → Grid
put r c x g = filled (one r c) x g
