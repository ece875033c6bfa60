use Rattle.std.proofs.Common.{◌≡◌, ◌≤◌, drop, length, ◌<◌, ◌^◌}
use Rattle.std.specs.Fmt.{digits}
use Rattle.ti_parm.proofs.Decimals.{digits_before}
use Rattle.ti_parm.proofs.digits.digits_at_end.Given as goal

abbrev pub invariant-loop-left : goal.invariant-loop-left
invariant-loop-left l = record {
  whole : length l.buffer ≡ 12;
  from : 1 ≤ l.start;
  to : l.start ≤ 12;
  small : l.left < 8 ^ l.start;
  digits : digits_before l.start l.base l.upper l.left (drop l.start l.buffer) ≡ digits l.base l.upper l.number;
}

abbrev pub decreases-loop-left : goal.decreases-loop-left
decreases-loop-left l = l.left
