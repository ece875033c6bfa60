use Rattle.std.proofs.Common.{◌+◌, ◌-◌, refl}
use Rattle.cur_moves.specs.Erasures.{erased}
use Rattle.cur_moves.specs.declared.erasures.ErasedPart.TheVariants.{Head}
use Rattle.cur_paint.proofs.Mixtures.{mixed_head}
use Rattle.cur_paint.proofs.Painting.{cells_by}
use Rattle.cur_paint.proofs.painters.Painter.mend_head.Goals as goal

pub returns-in-Some : goal.returns-in-Some
returns-in-Some g c =
    let old = g.O.Picture.cells c.args.self.now.screens.now.old.now in
    let new = g.N.Picture.cells c.args.self.now.screens.now.new.now in
    let run = c.if-not-is_run.ensures in
    let x = c.args.cells in
    record { mends = cells_by x.row x.from x.count (erased Head x.row (x.from + x.count - 1)) (λ h k. c.erase_at.ensures.step h) (run.differs refl) (λ i j li lj. mixed_head old new x.row x.from x.count i j (run.some refl) (run.blank refl)) c.erase_at.ensures.mode (record { screens = refl; pen = refl }) }
