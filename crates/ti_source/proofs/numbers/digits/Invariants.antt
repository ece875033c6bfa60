use Rattle.std.proofs.Common.{◌≡◌, ◌≤◌, drop}
use Rattle.std.specs.Prelude.{option_map}
use Rattle.ti_source.specs.Numbers.{digits_from, capped}
use Rattle.ti_source.proofs.numbers.digits.Given as goal

abbrev pub invariant-loop-byte : goal.invariant-loop-byte
invariant-loop-byte l = record {
  range : l.number ≤ 2147483648;
  rest : option_map capped (digits_from l.base l.number (drop l.byte-index l.text)) ≡ option_map capped (digits_from l.base 0 l.text);
}
