use Rattle.std.proofs.Common.{◌≡◌, ◌++◌, take}
use Rattle.std.specs.Prelude.{flat_map}
use Rattle.ti_compiled.specs.Packed.{number_bytes}
use Rattle.ti_compiled.specs.Written.{numbers_of, number_cell}
use Rattle.ti_compiled.proofs.pack.put_numbers.Given as goal

abbrev pub invariant-loop-position : goal.invariant-loop-position
invariant-loop-position l = l.out.items ≡ l.fn.out.items ++ flat_map (λ number. number_bytes l.form (number_cell l.form number)) (take l.position (numbers_of l.entry))
