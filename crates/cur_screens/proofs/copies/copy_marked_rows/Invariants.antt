-- The rows visited so far are copied.
use Rattle.std.proofs.Common.{◌≡◌}
use Rattle.cur_drawing.specs.Calls.{place}
use Rattle.cur_drawing.specs.Grids.{drawn_in, taken, shape_of}
use Rattle.grids.proofs.Rectangles.{top_rows}
use Rattle.cur_screens.proofs.copies.copy_marked_rows.Given as goal

abbrev pub invariant-loop-k : goal.invariant-loop-k
invariant-loop-k l = record {
  value : l.grid ≡ drawn_in (top_rows l.area l.k) (taken l.area (place l.area.top l.area.left) l.source) l.fn.grid;
  shape : shape_of l.grid ≡ shape_of l.fn.grid;
}
