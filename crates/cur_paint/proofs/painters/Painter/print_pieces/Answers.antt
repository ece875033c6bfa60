use Rattle.std.proofs.Common.{◌+◌, refl, arith}
use Rattle.std.proofs.lemmas.Result.{err_from_is_err_and}
use Rattle.cur_paint.proofs.Mixtures.{found_different}
use Rattle.cur_paint.proofs.Painting.{cells_fail, cells_none, cells_skip, cells_then}
use Rattle.cur_paint.proofs.painters.Painter.print_pieces.Goals as goal

pub loop-done-init : goal.loop-done-init
loop-done-init g c = record { within = omega arith; mends = cells_none c.args.cells.row c.args.cells.from g.met.W.Wire.lawful c.requires.cells.scene.checked }

pub loop-done-preserved : goal.loop-done-preserved
loop-done-preserved g c =
    let one = cells_then c.args.cells.row c.args.cells.from c.loop-done.done _ 1 (c.loop-done.done + 1) g.met.W.Wire.lawful c.loop-done.invariant.mends c.in_ok-print_cell.ensures.mends refl refl in
    record {
      within = omega (arith, c.piece_of-more.ensures.within, c.loop-done-test.true, c.loop-done.invariant.within);
      mends = cells_then c.args.cells.row c.args.cells.from (c.loop-done.done + 1) _ c.piece_of-more.result _ g.met.W.Wire.lawful one c.in_ok-print_alike.ensures.mends (omega arith) (omega arith);
    }

pub loop-done-preserved-then-shows : goal.loop-done-preserved-then-shows
loop-done-preserved-then-shows g c =
    record {
      within = omega (arith, c.loop-done-test.true, c.loop-done.invariant.within);
      mends = cells_skip c.args.cells.row c.args.cells.from c.loop-done.done c.at-ink.result c.loop-done.invariant.mends c.at-ink.ensures.value c.if-shows.ensures.value;
    }

pub print_cell-requires-clause-changed : goal.print_cell-requires-clause-changed
print_cell-requires-clause-changed g c =
    let p = c.loop-done.self.screens.now in
    found_different (g.O.Picture.cells p.old.now) (g.N.Picture.cells p.new.now) c.args.cells.row (c.args.cells.from + c.loop-done.done) c.at-ink.result c.at-ink.ensures.value c.if-shows.ensures.value

pub returns-in_err-print_cell : goal.returns-in_err-print_cell
returns-in_err-print_cell g c =
    let e = err_from_is_err_and c.from_residual.result c.from_residual.ensures.1 in
    rw e.1 (record {
      mends = cells_fail c.args.cells.row c.args.cells.from (c.loop-done.done + 1) c.args.cells.count (cells_then c.args.cells.row c.args.cells.from c.loop-done.done _ 1 _ g.met.W.Wire.lawful c.loop-done.invariant.mends c.in_err-print_cell.ensures.mends refl refl)
          (omega (arith, c.loop-done-test.true, c.loop-done.invariant.within));
    })

pub returns-in_err-print_alike : goal.returns-in_err-print_alike
returns-in_err-print_alike g c =
    let e = err_from_is_err_and c.from_residual-in_err-print_alike.result c.from_residual-in_err-print_alike.ensures.1 in
    let one = cells_then c.args.cells.row c.args.cells.from c.loop-done.done _ 1 (c.loop-done.done + 1) g.met.W.Wire.lawful c.loop-done.invariant.mends c.in_ok-print_cell.ensures.mends refl refl in
    rw e.1 (record {
      mends = cells_fail c.args.cells.row c.args.cells.from (c.loop-done.done + 1 + c.piece_of-more.result) c.args.cells.count (cells_then c.args.cells.row c.args.cells.from (c.loop-done.done + 1) _ c.piece_of-more.result _ g.met.W.Wire.lawful one c.in_err-print_alike.ensures.mends (omega arith) (omega arith))
          (omega (arith, c.piece_of-more.ensures.within, c.loop-done-test.true, c.loop-done.invariant.within));
    })
