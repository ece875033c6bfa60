use Rattle.std.proofs.Common.{◌≡◌, ◌≤◌, length, min}
use Rattle.ti_parm.specs.Codes.{behind_digits, number_on}
use Rattle.ti_parm.proofs.number.number.Given as goal

abbrev pub invariant-loop-digit : goal.invariant-loop-digit
invariant-loop-digit l = record {
  small : l.value ≤ 2147483648;
  value : min 2147483648 (number_on l.value l.rest) ≡ min 2147483648 (number_on 0 l.text);
  within : length l.rest ≤ length l.text;
  rest : behind_digits l.rest ≡ behind_digits l.text;
}

abbrev pub decreases-loop-digit : goal.decreases-loop-digit
decreases-loop-digit l = length l.rest
