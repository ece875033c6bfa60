use Rattle.std.proofs.Common.{length, ◌-◌, ◌≤◌, take}
use Rattle.cur_steps.proofs.wires.send_all.Given as goal

-- the bytes before this place were sent
abbrev pub invariant-loop-sent : goal.invariant-loop-sent
invariant-loop-sent g l = record {
  within : l.sent ≤ length l.bytes;
  out : g.W.Wire.went l.initial.wire l.wire (take l.sent l.bytes);
}

abbrev pub decreases-loop-sent : goal.decreases-loop-sent
decreases-loop-sent g l = length l.bytes - l.sent
