use Rattle.std.proofs.Common.{ℕ, ◌-◌, ◌<◌, refl, subst, arith}
use Rattle.ti_conforms.specs.Certified.{cell_limit}
use Rattle.cur_moves.specs.Erasures.{erased}
use Rattle.cur_moves.specs.declared.erasures.ErasedPart.TheVariants.{Tail}
use Rattle.cur_steps.specs.Inks.{mixed}
use Rattle.cur_paint.specs.Differ.{span}
use Rattle.cur_paint.proofs.Mixtures.{mixed_before, mixed_blank, mixed_rest, some_times}
use Rattle.cur_paint.proofs.Painting.{cells_from, mends_by, mends_none}
use Rattle.cur_paint.proofs.painters.Painter.mend_tail.Goals as goal

pub returns-then-columns : goal.returns-then-columns
returns-then-columns g c =
    let t = g.C.Certificate.table c.args.self.now.screens.now.checked.now in
    let old = g.O.Picture.cells c.args.self.now.screens.now.old.now in
    let new = g.N.Picture.cells c.args.self.now.screens.now.new.now in
    record {
      mends = mends_none g.met.W.Wire.lawful c.requires.scene.checked (λ i j li lj. mixed_rest old new c.args.row c.args.columns.from t.cols i j lj (λ k le lt. c.requires.same k (omega (arith, le, c.if-columns.true)) lt));
    }

pub returns-then-not-differs_in : goal.returns-then-not-differs_in
returns-then-not-differs_in g c =
    record { mends = cells_from c.args.row c.args.columns.from _ c.mend_span.ensures.mends c.cols.ensures.value (omega (arith, c.requires.order, c.requires.within)) }

pub returns-in-None : goal.returns-in-None
returns-in-None g c =
    record { mends = cells_from c.args.row c.args.columns.from _ c.mend_span-in-None.ensures.mends c.cols.ensures.value (omega (arith, c.requires.order, c.requires.within)) }

pub returns-in-Some : goal.returns-in-Some
returns-in-Some g c =
    let t = g.C.Certificate.table c.args.self.now.screens.now.checked.now in
    let old = g.O.Picture.cells c.args.self.now.screens.now.old.now in
    let new = g.N.Picture.cells c.args.self.now.screens.now.new.now in
    let row = c.args.row in
    let from = c.args.columns.from in
    let P : ℕ → Type 0 = λ n. 0 < span old new row from (n - from) in
    let some : 0 < span old new row from (t.cols - from) = subst P c.cols.ensures.value (c.if-not-differs_in.ensures refl) in
    record {
      mends = mends_by (cell_limit t) (erased Tail row from (mixed old new row from)) (c.erase.ensures.step (mixed old new row from) (mixed_before old new row from))
          (some_times _ (cell_limit t) some) (λ i j li lj. mixed_blank old new row from t.cols i j lj (c.requires.blank (omega (arith, c.requires.order, c.if-columns.false)))) c.erase.ensures.mode c.erase.ensures.same;
    }
