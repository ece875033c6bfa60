use Rattle.std.proofs.Common.{◌≡◌, ◌++◌, take, flat_map}
use Rattle.ti_source.specs.Prints.{spelled}
use Rattle.ti_source.proofs.printer.push_string.Given as goal

abbrev pub invariant-loop-byte : goal.invariant-loop-byte
invariant-loop-byte l = l.text.items ≡ l.fn.text.items ++ flat_map spelled (take l.byte-index l.bytes)
