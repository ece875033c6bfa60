use Rattle.std.proofs.Common.{◌≡◌, ◌+◌}
use Rattle.ti_compiled.specs.Readings.{parts_view}
use Rattle.ti_compiled.specs.Contents.{entry_of, partly}
use Rattle.ti_compiled.proofs.unpack.put_strings.Given as goal

abbrev pub invariant-loop-position : goal.invariant-loop-position
invariant-loop-position l = l.entry ≡ partly (entry_of (parts_view l.parts)) (83 + l.position)
