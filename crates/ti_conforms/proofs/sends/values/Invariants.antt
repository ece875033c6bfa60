use Rattle.std.proofs.Common.{◌≡◌, ◌≤◌, length, take}
use Rattle.ti_parm.specs.Value.{values_of}
use Rattle.ti_rows.specs.Params.{params}
use Rattle.ti_conforms.specs.Sends as spec
use Rattle.ti_conforms.proofs.sends.values.Given as goal

abbrev pub invariant-loop-number : goal.invariant-loop-number
invariant-loop-number l = record {
  items : l.number-items ≡ params l.fn.row;
  few : length l.number-items ≤ 9;
  size : length l.values.items ≡ l.number-index;
  values : values_of l.values.items ≡ spec.numbers (take l.number-index l.number-items);
}
