use Rattle.std.proofs.Common.{◌≡◌, length, drop}
use Rattle.ti_resolve.specs.Fills.{fields_of_all, take_fields}
use Rattle.ti_resolve.proofs.fill.take_entries.Given as goal

abbrev pub invariant-loop-place : goal.invariant-loop-place
invariant-loop-place l = record {
  sized : length l.decided ≡ 497;
  taken : take_fields (record { entry = l.entry; decided = l.decided }) (fields_of_all l.raws (drop l.place-index l.places)) ≡ take_fields (record { entry = l.fn.entry; decided = l.fn.decided }) (fields_of_all l.raws l.places);
}
