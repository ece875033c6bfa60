use Rattle.std.proofs.Common.{refl}
use Rattle.cur_paint.proofs.painters.Painter.erase.Goals as goal

pub returns : goal.returns
returns g c = record { step = c.erase_from.ensures.step; mode = c.erase_from.ensures.mode; same = record { screens = refl; pen = refl } }
