use Rattle.std.proofs.Common.{◌≡◌, Ok, None, take, drop}
use Rattle.cur_steps.specs.declared.wires.WireFault.{WireFault}
use Rattle.ti_conforms.specs.Certified.{lengths}
use Rattle.cur_steps.specs.Singles.{with_singles}
use Rattle.cur_steps.specs.Steps.{Keeps}
use Rattle.cur_steps.proofs.SingleFacts.{with_attributes}
use Rattle.cur_steps.proofs.pens.Pen.add_singles.Given as goal

abbrev pub invariant-loop-row : goal.invariant-loop-row
invariant-loop-row g l = record {
  set : l.self.belief.graphic ≡ None;
  ahead : with_attributes l.self.belief (with_singles l.wanted (drop l.row-index l.rows) l.self.belief.brush.attributes)
      ≡ with_attributes l.fn.self.belief (with_singles l.wanted l.rows l.fn.self.belief.brush.attributes);
  step : Keeps {T = Unit {0}} {E = WireFault} g.W.Wire.went g.W.Wire.failures l.fn.self l.self (Ok tt)
      (g.C.Certificate.table l.checked) (lengths (g.C.Certificate.table l.checked) (take l.row-index l.rows));
}
