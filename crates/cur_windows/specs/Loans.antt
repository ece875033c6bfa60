-- A line of a window that is borrowed for writing, as a slice of its cells.
use Rattle.std.specs.Prelude.{ℕ, List, slice_set}
use Rattle.std.specs.Borrow.{Lends, MutBor, Fml, Array, follows}
use Rattle.cur_drawing.specs.Cells.{Content}
use Rattle.cur_drawing.specs.Grids.{part_written}
use Rattle.cur_drawing.specs.contracts.cells.Cell.{the_row as cell_row}
use Rattle.cur_windows.specs.Desks.{State, grid_at}
use Rattle.cur_windows.specs.Rows.{row_written}
use Rattle.cur_windows.specs.contracts.desks.Desk.{the_row as desk_row}
use Rattle.cur_windows.specs.declared.rows.RowMut.{RowMut}

-- the desk ends with the last content of r in line i of grid k, from column j on
abbrev pub LendsPart : MutBor State → ℕ → ℕ → ℕ → MutBor (List Content) → Fml
LendsPart d k i j r =
    Lends desk_row (Array cell_row 0) d r (λ cells.
    record d.now { grids = slice_set d.now.grids k (part_written i j cells (grid_at d.now k)) })

-- the desk ends with the last content of r in the borrowed line
abbrev pub LendsLine : RowMut → MutBor (List Content) → Fml
LendsLine line r =
    follows desk_row (Array cell_row 0) line.desk.ghost_name r.ghost_name (λ cells.
    row_written line.desk.now line.slot line.row cells)
