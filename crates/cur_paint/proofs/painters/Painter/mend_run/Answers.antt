use Rattle.std.proofs.Common.{refl}
use Rattle.cur_moves.specs.Erasures.{erased}
use Rattle.cur_moves.specs.declared.erasures.ErasedPart.TheVariants.{Part}
use Rattle.cur_paint.proofs.Mixtures.{mixed_run}
use Rattle.cur_paint.proofs.Painting.{cells_by}
use Rattle.cur_paint.proofs.painters.Painter.mend_run.Goals as goal

pub returns-in-Some : goal.returns-in-Some
returns-in-Some g c =
    let run = c.if-not-is_run.ensures in
    let x = c.args.cells in
    record {
      mends = cells_by x.row x.from x.count (erased (Part x.count) x.row x.from) c.erase.ensures.step (run.differs refl)
          (λ i j li lj. mixed_run (g.O.Picture.cells c.args.self.now.screens.now.old.now) (g.N.Picture.cells c.args.self.now.screens.now.new.now) x.row x.from x.count i j (run.blank refl)) c.erase.ensures.mode c.erase.ensures.same;
    }
