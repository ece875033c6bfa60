-- The bytes visited so far are tokens, and these are the switches after them.
use Rattle.std.proofs.Common.{◌≤◌, ◌-◌, length}
use Rattle.vt_states.proofs.Endings.{Switched}
use Rattle.vt_states.proofs.watches.switches_in.Given as goal

abbrev pub invariant-loop-end : goal.invariant-loop-end
invariant-loop-end l = record {
  within : l.start ≤ length l.text;
  switched : Switched l.text l.start l.switches;
}

abbrev pub decreases-loop-end : goal.decreases-loop-end
decreases-loop-end l = length l.text - l.start
