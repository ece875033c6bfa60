use Rattle.std.proofs.Common.{◌≡◌, ◌*◌, ◌≤◌, length, take}
use Rattle.ti_compiled.specs.Written.{strings_of, table_of}
use Rattle.ti_compiled.proofs.pack.table_size.Given as goal

abbrev pub invariant-loop-position : goal.invariant-loop-position
invariant-loop-position l = record {
  size : l.size ≡ length (table_of (take l.position (strings_of l.entry)));
  small : l.size ≤ 4096 * l.position;
}
