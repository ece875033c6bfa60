-- The remaining bytes do from here what the whole text did from the start.
use Rattle.std.proofs.Common.{◌≡◌, ◌≤◌, ◌-◌, drop, length}
use Rattle.cur_drawing.specs.Calls.{IsKept, canvas, added_all}
use Rattle.cur_drawing.proofs.windows.Window.add_all.Given as goal

abbrev pub invariant-loop-at : goal.invariant-loop-at
invariant-loop-at l = record {
  within : l.at ≤ length l.text;
  kept : IsKept l.fn.grid l.fn.self l.grid l.self;
  rest : added_all (drop l.at l.text) (canvas l.grid l.self) ≡ added_all l.text (canvas l.fn.grid l.fn.self);
}

abbrev pub decreases-loop-at : goal.decreases-loop-at
decreases-loop-at l = length l.text - l.at
