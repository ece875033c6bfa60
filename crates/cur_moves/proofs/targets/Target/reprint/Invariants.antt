use Rattle.std.proofs.Common.{◌≡◌, ◌+◌, ℕ, Ok}
use Rattle.cur_steps.specs.declared.wires.WireFault.{WireFault}
use Rattle.cur_steps.specs.Gaps.{BeginsAs, right}
use Rattle.cur_steps.specs.Steps.{Acts}
use Rattle.cur_steps.specs.declared.inks.Ink.{Ink}
use Rattle.cur_moves.proofs.targets.Target.reprint.Given as goal

abbrev pub invariant-loop-n : goal.invariant-loop-n
invariant-loop-n g l = record {
  belief : l.pen.belief ≡ record l.fn.pen.belief { place = right l.from l.n };
  step : (h : ℕ → ℕ → Ink) → BeginsAs h (g.N.Picture.cells l.self.shown.now) l.from.row (l.from.col + l.count)
      → Acts {T = Unit {0}} {E = WireFault} g.W.Wire.went g.W.Wire.failures l.fn.pen.wire l.pen.wire (Ok tt)
      (g.C.Certificate.table l.self.checked.now) l.n h h l.fn.pen.belief l.pen.belief;
}
