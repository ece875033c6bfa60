use Rattle.std.proofs.Common.{◌*◌, ◌≤◌, arith}
use Rattle.std.proofs.lemmas.Result.{err_from_is_err_and}
use Rattle.ti_conforms.specs.Certified.{cell_limit}
use Rattle.cur_moves.specs.Erasures.{erased}
use Rattle.cur_moves.specs.declared.erasures.ErasedPart.TheVariants.{Rest}
use Rattle.cur_steps.specs.Inks.{mixed}
use Rattle.cur_paint.specs.Scenes.{Mends, mended}
use Rattle.cur_paint.proofs.Mixtures.{mixed_before, rest_new}
use Rattle.cur_paint.proofs.Painting.{itself, line_fail, line_then, mends_as, mends_by}
use Rattle.cur_paint.proofs.painters.Painter.mend_bottom.Goals as goal

pub returns-in_err-mend_parts : goal.returns-in_err-mend_parts
returns-in_err-mend_parts g c =
    let e = err_from_is_err_and c.from_residual.result c.from_residual.ensures.1 in
    rw e.1 (record { mends = line_fail c.args.row c.args.columns.from c.args.columns.end c.in_err-mend_parts.ensures.mends c.requires.start (omega (arith, c.requires.col)) c.requires.before })

pub returns : goal.returns
returns g c =
    let t = g.C.Certificate.table c.args.self.now.screens.now.checked.now in
    let old = g.O.Picture.cells c.args.self.now.screens.now.old.now in
    let new = g.N.Picture.cells c.args.self.now.screens.now.new.now in
    let row = c.args.row in
    let col = c.args.columns.end in
    let there = g.O.Picture.cells c.mend_parts.new.self.screens.now.old.now in
    let then = g.N.Picture.cells c.mend_parts.new.self.screens.now.new.now in
    let at = g.C.Certificate.table c.mend_parts.new.self.screens.now.checked.now in
    let limit = cell_limit at in
    let one : limit ≤ 1 * limit = omega arith in
    let erases : Mends g.C.Certificate.table g.O.Picture.cells g.N.Picture.cells g.W.Wire.went g.W.Wire.failures c.mend_parts.new.self _ c.erase.result (λ s. 1) (λ s. mended s row col) (λ s. erased Rest row col (mended s row col)) =
    mends_by limit (erased Rest row col (mixed there then row col)) (c.erase.ensures.step (mixed there then row col) (mixed_before there then row col)) one (itself at (erased Rest row col (mixed there then row col)))
    c.erase.ensures.mode c.erase.ensures.same in
    record {
      mends = mends_as (line_then c.args.row c.args.columns.from c.args.columns.end g.met.W.Wire.lawful c.in_ok-mend_parts.ensures.mends erases c.requires.start (omega (arith, c.requires.col)) (omega (arith, c.requires.differs)) c.requires.before)
          (omega arith) (itself t (mixed old new row 0)) (λ i j li lj. rest_new old new t.rows t.cols row col i j li lj c.requires.blank);
    }
