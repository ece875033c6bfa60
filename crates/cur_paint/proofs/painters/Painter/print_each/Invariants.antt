use Rattle.std.proofs.Common.{Ok}
use Rattle.cur_steps.specs.declared.wires.WireFault.{WireFault}
use Rattle.cur_paint.specs.Scenes.{MendsCells}
use Rattle.cur_paint.proofs.painters.Painter.print_each.Given as goal

abbrev pub invariant-loop-n : goal.invariant-loop-n
invariant-loop-n g l =
    MendsCells {T = Unit {0}} {E = WireFault} g.C.Certificate.table g.O.Picture.cells g.N.Picture.cells g.W.Wire.went g.W.Wire.failures l.fn.self l.self (Ok tt) (record l.cells { count = l.n })
