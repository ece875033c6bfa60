use Rattle.std.proofs.Common.{◌≡◌, ◌≤◌, drop}
use Rattle.std.specs.Prelude.{option_map}
use Rattle.cur_scripts.specs.Numbers.{spelled_after, capped}
use Rattle.cur_scripts.proofs.numbers.digits.Given as goal

abbrev pub invariant-loop-byte : goal.invariant-loop-byte
invariant-loop-byte l = record {
  range : l.number ≤ 2147483649;
  rest : option_map capped (spelled_after l.number (drop l.byte-index l.text)) ≡ option_map capped (spelled_after 0 l.text);
}
