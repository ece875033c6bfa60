use Rattle.std.proofs.Common.{◌≡◌, ◌<◌, ℕ, false}
use Rattle.ti_caps.specs.declared.types.Kind.TheVariants as kinds
use Rattle.ti_compiled.specs.Readings.{parts_view}
use Rattle.ti_compiled.specs.Contents.{value_of, is_long_string}
use Rattle.ti_compiled.proofs.unpack.has_long_string.Given as goal

abbrev pub invariant-loop-position : goal.invariant-loop-position
invariant-loop-position l = (k : ℕ) → k < l.position → is_long_string (value_of (parts_view l.parts) kinds.String k) ≡ false
