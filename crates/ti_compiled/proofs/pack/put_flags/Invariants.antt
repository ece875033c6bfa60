use Rattle.std.proofs.Common.{◌≡◌, ◌++◌, ◌∷◌, [], Bool, take}
use Rattle.std.specs.Prelude.{flat_map}
use Rattle.std.specs.Int.{from_bool}
use Rattle.ti_compiled.specs.Written.{flags_of}
use Rattle.ti_compiled.proofs.pack.put_flags.Given as goal

abbrev pub invariant-loop-position : goal.invariant-loop-position
invariant-loop-position l = l.out.items ≡ l.fn.out.items ++ flat_map (λ (flag : Bool). from_bool flag ∷ []) (take l.position (flags_of l.entry))
