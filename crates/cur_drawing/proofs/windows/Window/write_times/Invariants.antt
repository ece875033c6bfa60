-- The remaining times do from here what all of them did from the start.
use Rattle.std.proofs.Common.{◌≡◌, ◌-◌}
use Rattle.cur_drawing.specs.Calls.{IsKept, canvas, written_times}
use Rattle.cur_drawing.proofs.windows.Window.write_times.Given as goal

abbrev pub invariant-loop-time : goal.invariant-loop-time
invariant-loop-time l = record {
  kept : IsKept l.fn.grid l.fn.self l.grid l.self;
  rest : written_times (l.n - l._time) l.put (canvas l.grid l.self) ≡ written_times l.n l.put (canvas l.fn.grid l.fn.self);
}
