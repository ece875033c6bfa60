use Rattle.std.proofs.Common.{◌*◌, ℕ, Ok}
use Rattle.cur_steps.specs.declared.wires.WireFault.{WireFault}
use Rattle.cur_steps.specs.declared.beliefs.Belief.{Belief}
use Rattle.cur_steps.specs.declared.inks.Ink.{Ink}
use Rattle.cur_moves.specs.Scrolls.{shifted}
use Rattle.cur_moves.specs.Frames.{Moves, at_edge}
use Rattle.cur_moves.proofs.regions.scroll_at_edge.Given as goal

abbrev pub invariant-loop-line : goal.invariant-loop-line
invariant-loop-line g l = record {
  step : (h : ℕ → ℕ → Ink) (b : Belief)
      → Moves {T = Unit {0}} {E = WireFault} g.W.Wire.went g.W.Wire.failures l.fn.wire l.wire (Ok tt)
      (g.C.Certificate.table l.checked) (l._line * (g.C.Certificate.table l.checked).longest.scroll)
      (at_edge l.scroll h) (at_edge l.scroll (shifted (record l.scroll { count = l._line }) h)) b;
}
