-- Drawn grids by their places, with spaces past the end.
use Rattle.std.proofs.Common.{◌≡◌, ℕ, ◌<◌, true, false, length}
use Rattle.grids.specs.declared.areas.Area.{Area}
use Rattle.grids.proofs.Drawings as base
use Rattle.cur_drawing.specs.Cells.{Content, space}
use Rattle.cur_drawing.specs.Grids.{Grid, line_at, cell_at, drawn, drawn_in, is_in}
pub use Rattle.grids.proofs.Drawings.{shape_of-drawn, shape_of-line, shape_of-length, fits_same}

pub cell_at-drawn : (f : ℕ → ℕ → Content → Content) (g : Grid) (i j : ℕ) → j < length (line_at g i) → cell_at (drawn f g) i j ≡ f i j (cell_at g i j)
cell_at-drawn f g i j near = base.cell_at-drawn f space g i j near

pub cell_at-drawn_in_off : (a : Area) (f : ℕ → ℕ → Content → Content) (g : Grid) (i j : ℕ) → is_in a i j ≡ false → cell_at (drawn_in a f g) i j ≡ cell_at g i j
cell_at-drawn_in_off a f g i j off = base.cell_at-drawn_in_off a f space g i j off

pub cell_at-drawn_in : (a : Area) (f : ℕ → ℕ → Content → Content) (g : Grid) (i j : ℕ) → is_in a i j ≡ true → j < length (line_at g i) → cell_at (drawn_in a f g) i j ≡ f i j (cell_at g i j)
cell_at-drawn_in a f g i j on near = base.cell_at-drawn_in a f space g i j on near
