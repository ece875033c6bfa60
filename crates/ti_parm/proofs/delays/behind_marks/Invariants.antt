use Rattle.std.proofs.Common.{◌≡◌, ◌≤◌, length}
use Rattle.ti_parm.specs.Delays.{behind_marks}
use Rattle.ti_parm.proofs.delays.behind_marks.Given as goal

abbrev pub invariant-loop-behind : goal.invariant-loop-behind
invariant-loop-behind l = record {
  marks : behind_marks l.rest ≡ behind_marks l.text;
  within : length l.rest ≤ length l.text;
}

abbrev pub decreases-loop-behind : goal.decreases-loop-behind
decreases-loop-behind l = length l.rest
