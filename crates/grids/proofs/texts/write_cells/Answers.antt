use Rattle.std.proofs.Common.{◌∙◌, ◌+◌}
use Rattle.std.proofs.lemmas.List.{length-set}
use Rattle.grids.proofs.Written.{write_step}
use Rattle.grids.proofs.texts.write_cells.Goals as goal

pub loop-k-preserved : goal.loop-k-preserved
loop-k-preserved g c = record {
  len = length-set c.loop-k.cells (c.args.col + c.loop-k.k) c.paint.result ∙ c.loop-k.invariant.len;
  written = write_step (g.P.Paint.painted c.args.paint.now) c.args.col c.loop-k.k c.args.bytes.now c.args.cells.now c.loop-k.cells c.paint.result c.loop-k-test.true c.paint.ensures c.loop-k.invariant.written;
}
