use Rattle.std.proofs.Common.{◌≡◌, length, drop}
use Rattle.ti_resolve.specs.Fills.{take_fields}
use Rattle.ti_resolve.proofs.fill.take_each.Given as goal

abbrev pub invariant-loop-field : goal.invariant-loop-field
invariant-loop-field l = record {
  sized : length l.decided ≡ 497;
  taken : take_fields (record { entry = l.entry; decided = l.decided }) (drop l.field-index l.fields) ≡ take_fields (record { entry = l.fn.entry; decided = l.fn.decided }) l.fields;
}
