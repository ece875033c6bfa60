use Rattle.std.proofs.Common.{◌≡◌}
use Rattle.ti_sources.specs.Compiled.{fields_below}
use Rattle.ti_sources.proofs.compiled.fields_of.Given as goal

-- the fields of the capabilities before this one
abbrev pub invariant-loop-place : goal.invariant-loop-place
invariant-loop-place l = l.fields ≡ fields_below l.entry l.place
