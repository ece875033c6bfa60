use Rattle.std.proofs.Common.{◌+◌, refl, arith}
use Rattle.std.proofs.lemmas.Result.{err_from_is_err_and}
use Rattle.cur_paint.proofs.Painting.{cells_fail, cells_none, cells_then}
use Rattle.cur_paint.proofs.painters.Painter.mend_by_parts.Goals as goal

pub loop-done-init : goal.loop-done-init
loop-done-init g c = record { within = omega arith; mends = cells_none c.args.cells.row c.args.cells.from g.met.W.Wire.lawful c.requires.cells.scene.checked }

pub loop-done-preserved : goal.loop-done-preserved
loop-done-preserved g c = record {
  within = omega (arith, c.next_part-part.ensures.within, c.loop-done.invariant.within);
  mends = cells_then c.args.cells.row c.args.cells.from c.loop-done.done _ c.next_part-part.result.count _ g.met.W.Wire.lawful c.loop-done.invariant.mends c.in_ok-mend_part.ensures.mends refl refl;
}

pub returns-in_err-mend_part : goal.returns-in_err-mend_part
returns-in_err-mend_part g c =
    let e = err_from_is_err_and c.from_residual.result c.from_residual.ensures.1 in
    rw e.1 (record {
      mends = cells_fail c.args.cells.row c.args.cells.from (c.loop-done.done + c.next_part-part.result.count) c.args.cells.count (cells_then c.args.cells.row c.args.cells.from c.loop-done.done _ c.next_part-part.result.count _ g.met.W.Wire.lawful c.loop-done.invariant.mends c.in_err-mend_part.ensures.mends refl refl)
          (omega (arith, c.next_part-part.ensures.within, c.loop-done.invariant.within));
    })
