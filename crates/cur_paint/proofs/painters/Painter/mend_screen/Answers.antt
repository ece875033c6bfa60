use Rattle.std.proofs.Common.{◌≡◌, ◌+◌, Some, sym, subst, arith}
use Rattle.std.proofs.lemmas.Result.{err_from_is_err_and}
use Rattle.ti_rows.specs.declared.rows.Row.TheVariants.{Ed}
use Rattle.cur_paint.specs.Differ.{all_differ}
use Rattle.cur_paint.proofs.Mixtures.{all_grows, all_more}
use Rattle.cur_paint.proofs.LineRanges.{mixed_above, mixed_below, sized_as}
use Rattle.cur_paint.proofs.Painting.{itself, mends_as, mends_fail, mends_none, mends_then}
use Rattle.cur_paint.proofs.painters.Painter.mend_screen.Goals as goal

pub loop-row-init : goal.loop-row-init
loop-row-init g c =
    let t = g.C.Certificate.table c.args.self.now.screens.now.checked.now in
    let old = g.O.Picture.cells c.args.self.now.screens.now.old.now in
    let new = g.N.Picture.cells c.args.self.now.screens.now.new.now in
    let x = c.lines-lines.result in
    let same = sized_as old new x.from x.end c.rows-rows.result c.cols-cols.result t.rows t.cols (c.lines-lines.ensures.same old new c.requires.compared.changes) c.rows-rows.ensures.value c.cols-cols.ensures.value in
    mends_none g.met.W.Wire.lawful c.requires.compared.scene.checked (λ i j li lj. mixed_above old new x.from i j (λ lt. same.above i j lt lj))

pub loop-row-preserved : goal.loop-row-preserved
loop-row-preserved g c =
    let t = g.C.Certificate.table c.args.self.now.screens.now.checked.now in
    let old = g.O.Picture.cells c.args.self.now.screens.now.old.now in
    let new = g.N.Picture.cells c.args.self.now.screens.now.new.now in
    mends_then g.met.W.Wire.lawful c.loop-row.invariant c.in_ok-mend_line-in-None.ensures.mends (omega (arith, all_more old new t.cols c.loop-row.row))

pub returns-in_err-mend_line-in-None : goal.returns-in_err-mend_line-in-None
returns-in_err-mend_line-in-None g c =
    let e = err_from_is_err_and c.from_residual.result c.from_residual.ensures.1 in
    let t = g.C.Certificate.table c.args.self.now.screens.now.checked.now in
    let old = g.O.Picture.cells c.args.self.now.screens.now.old.now in
    let new = g.N.Picture.cells c.args.self.now.screens.now.new.now in
    let row = c.loop-row.row in
    let more = all_more old new t.cols row in
    let grows = all_grows old new t.cols (row + 1) t.rows (omega (arith, c.loop-row-test.true, c.lines-lines.ensures.within, c.rows-rows.ensures.value)) in
    rw e.1 (record { mends = mends_fail (mends_then {k = λ s. all_differ s.old s.new s.table.cols (row + 1)} g.met.W.Wire.lawful c.loop-row.invariant c.in_err-mend_line-in-None.ensures.mends (omega (arith, more))) grows })

pub returns : goal.returns
returns g c =
    let t = g.C.Certificate.table c.args.self.now.screens.now.checked.now in
    let old = g.O.Picture.cells c.args.self.now.screens.now.old.now in
    let new = g.N.Picture.cells c.args.self.now.screens.now.new.now in
    let x = c.lines-lines.result in
    let same = sized_as old new x.from x.end c.rows-rows.result c.cols-cols.result t.rows t.cols (c.lines-lines.ensures.same old new c.requires.compared.changes) c.rows-rows.ensures.value c.cols-cols.ensures.value in
    let row = c.loop-row.row in
    let all : row ≡ x.end = omega (arith, c.lines-lines.ensures.order) in
    let grows = all_grows old new t.cols row t.rows (omega (arith, all, c.lines-lines.ensures.within, c.rows-rows.ensures.value)) in
    record {
      mends = mends_as c.loop-row.invariant grows (itself t old) (λ i j li lj. mixed_below old new row i j (λ le. same.below i j (omega (arith, all, le)) li lj));
    }

pub mend_bottom-requires-clause-line : goal.mend_bottom-requires-clause-line
mend_bottom-requires-clause-line g c =
    subst (λ x. (g.C.Certificate.table x.now.checked.now).line_of Ed ≡ Some c.in-Some.line.now) (sym c.loop-row.invariant.same.screens) c.in-Some.ensures.line

pub returns-in-Some : goal.returns-in-Some
returns-in-Some g c =
    let t = g.C.Certificate.table c.args.self.now.screens.now.checked.now in
    let old = g.O.Picture.cells c.args.self.now.screens.now.old.now in
    let new = g.N.Picture.cells c.args.self.now.screens.now.new.now in
    let grows = all_grows old new t.cols (c.loop-row.row + 1) t.rows (omega (arith, c.loop-row-test.true, c.lines-lines.ensures.within, c.rows-rows.ensures.value)) in
    record { mends = mends_then g.met.W.Wire.lawful c.loop-row.invariant c.mend_bottom.ensures.mends (omega (arith, all_more old new t.cols c.loop-row.row, grows)) }
