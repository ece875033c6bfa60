use Rattle.std.proofs.Common.{◌∙◌, sym, subst, arith}
use Rattle.std.proofs.lemmas.Result.{err_from_is_err_and}
use Rattle.cur_steps.specs.Inks.{mixed}
use Rattle.cur_paint.specs.Scenes.{IsSamePast, scene}
use Rattle.cur_paint.proofs.Mixtures.{mixed_rest, mixed_row}
use Rattle.cur_paint.proofs.Painting.{itself, line_fail, line_then, mends_as, mends_none}
use Rattle.cur_paint.proofs.Ranges.{all_same}
use Rattle.cur_paint.proofs.painters.Painter.mend_line.Goals as goal

pub mend_tail-requires-clause-same : goal.mend_tail-requires-clause-same
mend_tail-requires-clause-same g c =
    subst (λ x. IsSamePast (scene g.C.Certificate.table g.O.Picture.cells g.N.Picture.cells x.now) c.args.row c.args.columns.end) (sym c.in_ok-mend_parts.ensures.mends.same.screens) c.requires.same.after

pub returns-in_err-mend_parts : goal.returns-in_err-mend_parts
returns-in_err-mend_parts g c =
    let e = err_from_is_err_and c.from_residual.result c.from_residual.ensures.1 in
    rw e.1 (record {
      mends = line_fail c.args.row c.min-from.result c.args.tail c.in_err-mend_parts.ensures.mends (omega (arith, c.min-from.ensures)) (omega (arith, c.requires.tail, c.requires.within)) (λ k lt. c.requires.same.before k (omega (arith, lt, c.min-from.ensures)));
    })

pub returns : goal.returns
returns g c =
    let t = g.C.Certificate.table c.args.self.now.screens.now.checked.now in
    let old = g.O.Picture.cells c.args.self.now.screens.now.old.now in
    let new = g.N.Picture.cells c.args.self.now.screens.now.new.now in
    record {
      mends = mends_as (line_then c.args.row c.min-from.result c.args.tail g.met.W.Wire.lawful c.in_ok-mend_parts.ensures.mends c.mend_tail.ensures.mends (omega (arith, c.min-from.ensures)) (omega (arith, c.requires.tail, c.requires.within)) (omega arith)
          (λ k lt. c.requires.same.before k (omega (arith, lt, c.min-from.ensures)))) (omega arith) (itself t (mixed old new c.args.row 0)) (λ i j li lj. mixed_row old new c.args.row t.cols i j lj);
    }

pub returns-then-columns : goal.returns-then-columns
returns-then-columns g c =
    let t = g.C.Certificate.table c.args.self.now.screens.now.checked.now in
    let old = g.O.Picture.cells c.args.self.now.screens.now.old.now in
    let new = g.N.Picture.cells c.args.self.now.screens.now.new.now in
    let same = all_same old new c.args.row c.args.columns.from c.args.columns.end t.cols c.requires.same c.if-columns.true in
    record { mends = mends_none g.met.W.Wire.lawful c.requires.scene.checked (λ i j li lj. mixed_rest old new c.args.row 0 t.cols i j lj (λ k le lt. same k lt) ∙ mixed_row old new c.args.row t.cols i j lj) }
