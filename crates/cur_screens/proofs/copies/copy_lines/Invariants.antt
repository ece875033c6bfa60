-- The rows visited so far are copied, and each is marked from its first place that differed to its last one.
use Rattle.std.proofs.Common.{◌≡◌}
use Rattle.cur_drawing.specs.Grids.{drawn_in, taken, shape_of}
use Rattle.cur_screens.specs.Marks.{Keeps, MarksOnly}
use Rattle.grids.proofs.Rectangles.{top_rows}
use Rattle.cur_screens.proofs.copies.copy_lines.Given as goal

abbrev pub invariant-loop-k : goal.invariant-loop-k
invariant-loop-k l = record {
  value : l.grid ≡ drawn_in (top_rows l.copy.area l.k) (taken l.copy.area l.copy.from l.source) l.fn.grid;
  shape : shape_of l.grid ≡ shape_of l.fn.grid;
  marked : Keeps l.fn.marks l.fn.grid l.marks l.grid;
  only : MarksOnly l.fn.marks l.fn.grid l.marks l.grid;
}
