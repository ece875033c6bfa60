use Rattle.std.proofs.Common.{refl}
use Rattle.cur_steps.specs.Inks.{put_at}
use Rattle.cur_paint.proofs.Mixtures.{one_differs, put_new}
use Rattle.cur_paint.proofs.Painting.{cells_by}
use Rattle.cur_paint.proofs.painters.Painter.print_cell.Goals as goal

pub returns : goal.returns
returns g c =
    let old = g.O.Picture.cells c.args.self.now.screens.now.old.now in
    let new = g.N.Picture.cells c.args.self.now.screens.now.new.now in
    let x = c.args in
    record { mends = cells_by x.row x.col 1 (put_at x.row x.col x.ink) c.put_cell.ensures.step (one_differs old new x.row x.col c.requires.changed) (λ i j li lj. put_new old new x.row x.col x.ink c.requires.ink i j) c.put_cell.ensures.mode (record { screens = refl; pen = refl }) }
