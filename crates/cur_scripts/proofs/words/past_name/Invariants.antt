use Rattle.std.proofs.Common.{◌≤◌, ◌-◌, length, drop}
use Rattle.cur_scripts.proofs.WordsLeft.{Passes}
use Rattle.cur_scripts.proofs.words.past_name.Given as goal

abbrev pub invariant-loop-at : goal.invariant-loop-at
invariant-loop-at l = record {
  within : l.at ≤ length l.name;
  passes : Passes l.name l.line (drop l.at l.name) (drop l.at l.line);
}

abbrev pub decreases-loop-at : goal.decreases-loop-at
decreases-loop-at l = length l.name - l.at
