use Rattle.std.proofs.Common.{◌≡◌, ◌++◌, take}
use Rattle.ti_compiled.specs.Written.{strings_of, table_of}
use Rattle.ti_compiled.proofs.pack.put_table.Given as goal

abbrev pub invariant-loop-position : goal.invariant-loop-position
invariant-loop-position l = l.out.items ≡ l.fn.out.items ++ table_of (take l.position (strings_of l.entry))
