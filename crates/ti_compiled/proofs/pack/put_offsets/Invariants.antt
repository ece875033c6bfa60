use Rattle.std.proofs.Common.{◌≡◌, ◌++◌, length, take}
use Rattle.std.specs.Prelude.{flat_map}
use Rattle.ti_compiled.specs.Packed.{word}
use Rattle.ti_compiled.specs.Written.{strings_of, offsets_from, table_of}
use Rattle.ti_compiled.proofs.pack.put_offsets.Given as goal

abbrev pub invariant-loop-position : goal.invariant-loop-position
invariant-loop-position l = record {
  place : l.place ≡ length (table_of (take l.position (strings_of l.entry)));
  out : l.out.items ≡ l.fn.out.items ++ flat_map word (offsets_from 0 (take l.position (strings_of l.entry)));
}
