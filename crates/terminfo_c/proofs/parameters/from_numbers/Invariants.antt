-- The numbers visited so far are parameters.
use Rattle.std.proofs.Common.{◌≡◌, length, map, take}
use Rattle.ti_parm.specs.Value.{Number, values_of}
use Rattle.terminfo_c.proofs.parameters.from_numbers.Given as goal

abbrev pub invariant-loop-place : goal.invariant-loop-place
invariant-loop-place l = record {
  len : length l.params ≡ 9;
  filled : values_of (take l.place l.params) ≡ map Number (take l.place l.numbers);
}
