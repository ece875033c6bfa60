use Rattle.std.proofs.Common.{arith}
use Rattle.std.proofs.lemmas.Result.{err_from_is_err_and}
use Rattle.ti_conforms.specs.Certified.{cell_limit}
use Rattle.cur_paint.specs.Differ.{all_differ}
use Rattle.cur_paint.proofs.Bounds.{once_more}
use Rattle.cur_paint.proofs.Settling.{ends_after, ends_cut}
use Rattle.cur_paint.proofs.painters.Painter.paint.Goals as goal

pub returns-in_err-mend_screen : goal.returns-in_err-mend_screen
returns-in_err-mend_screen g c =
    let e = err_from_is_err_and c.from_residual.result c.from_residual.ensures.1 in
    let t = g.C.Certificate.table c.args.self.now.screens.now.checked.now in
    let new = g.N.Picture.cells c.args.self.now.screens.now.new.now in
    let m = c.in_err-mend_screen.ensures.mends in
    rw e.1 (record { ends = ends_cut new m.step m.same (omega (arith, once_more (all_differ (g.O.Picture.cells c.args.self.now.screens.now.old.now) new t.cols t.rows) (cell_limit t))) })

pub returns : goal.returns
returns g c =
    let t = g.C.Certificate.table c.args.self.now.screens.now.checked.now in
    let old = g.O.Picture.cells c.args.self.now.screens.now.old.now in
    let new = g.N.Picture.cells c.args.self.now.screens.now.new.now in
    let m = c.in_ok-mend_screen.ensures.mends in
    record { ends = ends_after g.met.W.Wire.lawful m.step m.mode m.same c.settle.ensures.ends (omega (arith, once_more (all_differ old new t.cols t.rows) (cell_limit t))) }
