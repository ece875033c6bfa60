-- The sequences that begin before this place are counted.
use Rattle.std.proofs.Common.{◌-◌, ◌≤◌, length}
use Rattle.vt_states.proofs.Finding.{CountedTo}
use Rattle.vt_states.proofs.sequences.ignored_in.Given as goal

abbrev pub invariant-loop-escape : goal.invariant-loop-escape
invariant-loop-escape l = record {
  within : l.at ≤ length l.text;
  counted : CountedTo l.text l.at l.counts;
}

abbrev pub decreases-loop-escape : goal.decreases-loop-escape
decreases-loop-escape l = length l.text - l.at
