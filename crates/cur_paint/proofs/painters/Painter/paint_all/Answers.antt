use Rattle.cur_paint.proofs.painters.Painter.paint_all.Goals as goal

pub returns : goal.returns
returns g c = record { ends = record { step = c.paint_over.ensures.ends.step; set = c.paint_over.ensures.ends.set; same = c.paint_over.ensures.ends.same } }
