use Rattle.std.proofs.Common.{Ok}
use Rattle.cur_steps.specs.declared.wires.WireFault.{WireFault}
use Rattle.cur_paint.specs.Differ.{all_differ}
use Rattle.cur_paint.specs.Scenes.{Mends, mended}
use Rattle.cur_paint.proofs.painters.Painter.mend_screen.Given as goal

abbrev pub invariant-loop-row : goal.invariant-loop-row
invariant-loop-row g l =
    Mends {T = Unit {0}} {E = WireFault} g.C.Certificate.table g.O.Picture.cells g.N.Picture.cells g.W.Wire.went g.W.Wire.failures l.fn.self l.self (Ok tt)
    (λ s. all_differ s.old s.new s.table.cols l.row) (λ s. s.old) (λ s. mended s l.row 0)
