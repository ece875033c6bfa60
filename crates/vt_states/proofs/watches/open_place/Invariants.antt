-- The bytes visited so far are tokens.
use Rattle.std.proofs.Common.{◌≤◌, ◌-◌, length}
use Rattle.vt_states.proofs.Endings.{Scanned}
use Rattle.vt_states.proofs.watches.open_place.Given as goal

abbrev pub invariant-loop-end : goal.invariant-loop-end
invariant-loop-end l = record {
  within : l.start ≤ length l.text;
  scanned : Scanned l.text l.start;
}

abbrev pub decreases-loop-end : goal.decreases-loop-end
decreases-loop-end l = length l.text - l.start
