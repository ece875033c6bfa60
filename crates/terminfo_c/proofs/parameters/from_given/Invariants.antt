-- The parameters visited so far have these values.
use Rattle.std.proofs.Common.{◌≡◌, length, map, take}
use Rattle.ti_parm.specs.Value.{values_of}
use Rattle.terminfo_c.specs.Parameters.{value_given}
use Rattle.terminfo_c.proofs.parameters.from_given.Given as goal

abbrev pub invariant-loop-place : goal.invariant-loop-place
invariant-loop-place l = record {
  len : length l.params ≡ 9;
  filled : values_of (take l.place l.params) ≡ map value_given (take l.place l.given);
}
