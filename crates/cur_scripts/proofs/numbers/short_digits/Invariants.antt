use Rattle.std.proofs.Common.{◌≡◌, ◌≤◌, ◌+◌, ◌-◌, length, drop}
use Rattle.cur_scripts.specs.Numbers.{spelled_after}
use Rattle.cur_scripts.specs.Words.{front_word}
use Rattle.cur_scripts.proofs.numbers.short_digits.Given as goal

abbrev pub invariant-loop-at : goal.invariant-loop-at
invariant-loop-at l = record {
  within : l.at ≤ length l.text;
  word : l.at + length (front_word (drop l.at l.text)) ≡ length (front_word l.text);
  spelled : spelled_after l.number (front_word (drop l.at l.text)) ≡ spelled_after 0 (front_word l.text);
  small : l.number ≤ 1000000000;
}

abbrev pub decreases-loop-at : goal.decreases-loop-at
decreases-loop-at l = length l.text - l.at
