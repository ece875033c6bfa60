use Rattle.std.proofs.Common.{refl}
use Rattle.cur_paint.proofs.painters.Painter.paint_over.Goals as goal

pub returns : goal.returns
returns g c =
    record { ends = record { step = c.paint.ensures.ends.step; set = c.paint.ensures.ends.set; same = record { screens = refl; pen = refl } } }
