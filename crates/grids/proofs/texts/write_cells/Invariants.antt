-- The bytes visited so far are written.
use Rattle.std.proofs.Common.{◌≡◌, length, take}
use Rattle.grids.specs.Grids.{written}
use Rattle.grids.proofs.texts.write_cells.Given as goal

abbrev pub invariant-loop-k : goal.invariant-loop-k
invariant-loop-k g l = record {
  len : length l.cells ≡ length l.fn.cells;
  written : l.cells ≡ written (g.P.Paint.painted l.paint) l.col (take l.k l.bytes) l.fn.cells;
}
