-- The bytes visited so far are open, and are those that the parser has read.
use Rattle.std.proofs.Common.{◌≡◌, ◌-◌, ◌≤◌, take, drop, length}
use Rattle.vt_term.specs.Text.{IsOpen}
use Rattle.vt_term.proofs.scanners.read.Given as goal

abbrev pub invariant-loop-at : goal.invariant-loop-at
invariant-loop-at l = record {
  ordered : l.from ≤ l.at;
  within : l.at ≤ length l.text;
  read : l.parser ≡ take (l.at - l.from) (drop l.from l.text);
  fits : IsOpen l.parser;
}
