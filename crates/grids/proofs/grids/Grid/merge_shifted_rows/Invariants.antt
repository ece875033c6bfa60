-- The rows visited so far have their new cells.
use Rattle.std.proofs.Common.{◌≡◌}
use Rattle.grids.specs.Grids.{drawn_in, combined, shape_of}
use Rattle.grids.proofs.Rectangles.{rows_done}
use Rattle.grids.proofs.grids.Grid.merge_shifted_rows.Given as goal

abbrev pub invariant-loop-k : goal.invariant-loop-k
invariant-loop-k g l = record {
  value : l.self ≡ drawn_in (rows_done l.back l.area l.k) (combined l.area l.from (g.R.Merge.merged l.rule) l.fn.self) l.fn.self;
  shape : shape_of l.self ≡ shape_of l.fn.self;
}
