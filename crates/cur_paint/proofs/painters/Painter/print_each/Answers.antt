use Rattle.std.proofs.Common.{◌+◌, refl, arith}
use Rattle.std.proofs.lemmas.Result.{err_from_is_err_and}
use Rattle.cur_paint.proofs.Mixtures.{found_different}
use Rattle.cur_paint.proofs.Painting.{cells_fail, cells_none, cells_skip, cells_then}
use Rattle.cur_paint.proofs.painters.Painter.print_each.Goals as goal

pub loop-n-init : goal.loop-n-init
loop-n-init g c = cells_none c.args.cells.row c.args.cells.from g.met.W.Wire.lawful c.requires.cells.scene.checked

pub loop-n-preserved : goal.loop-n-preserved
loop-n-preserved g c = cells_then c.args.cells.row c.args.cells.from c.loop-n.n _ 1 _ g.met.W.Wire.lawful c.loop-n.invariant c.in_ok-print_cell.ensures.mends refl refl

pub loop-n-preserved-then-shows : goal.loop-n-preserved-then-shows
loop-n-preserved-then-shows g c =
    cells_skip c.args.cells.row c.args.cells.from c.loop-n.n c.at-ink.result c.loop-n.invariant c.at-ink.ensures.value c.if-shows.ensures.value

pub print_cell-requires-clause-changed : goal.print_cell-requires-clause-changed
print_cell-requires-clause-changed g c =
    found_different (g.O.Picture.cells c.loop-n.self.screens.now.old.now) (g.N.Picture.cells c.loop-n.self.screens.now.new.now) c.args.cells.row (c.args.cells.from + c.loop-n.n) c.at-ink.result c.at-ink.ensures.value c.if-shows.ensures.value

pub returns-in_err-print_cell : goal.returns-in_err-print_cell
returns-in_err-print_cell g c =
    let e = err_from_is_err_and c.from_residual.result c.from_residual.ensures.1 in
    rw e.1 (record { mends = cells_fail c.args.cells.row c.args.cells.from (c.loop-n.n + 1) c.args.cells.count (cells_then c.args.cells.row c.args.cells.from c.loop-n.n _ 1 _ g.met.W.Wire.lawful c.loop-n.invariant c.in_err-print_cell.ensures.mends refl refl) (omega arith) })
