use Rattle.std.proofs.Common.{◌-◌}
use Rattle.cur_paint.proofs.Painting.{IsMendedTo}
use Rattle.cur_paint.proofs.painters.Painter.mend_by_parts.Given as goal

abbrev pub invariant-loop-done : goal.invariant-loop-done
invariant-loop-done g l = IsMendedTo g.C.Certificate.table g.O.Picture.cells g.N.Picture.cells g.W.Wire.went g.W.Wire.failures l.fn.self l.self l.cells l.done

abbrev pub decreases-loop-done : goal.decreases-loop-done
decreases-loop-done g l = l.cells.count - l.done
