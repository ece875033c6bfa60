use Rattle.std.proofs.Common.{◌≡◌, drop, take}
use Rattle.std.specs.Prelude.{option_map}
use Rattle.ti_source.specs.Layout.{marked_in}
use Rattle.ti_source.specs.Scan.{before_name}
use Rattle.ti_source.proofs.layout.marked.Given as goal

abbrev pub invariant-loop-byte : goal.invariant-loop-byte
invariant-loop-byte l = record {
  place : l.at ≡ l.byte-index;
  rest : option_map (before_name (take l.byte-index l.field)) (marked_in (drop l.byte-index l.field)) ≡ marked_in l.field;
}
