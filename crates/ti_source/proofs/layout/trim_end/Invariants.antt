use Rattle.std.proofs.Common.{◌≡◌, length}
use Rattle.ti_source.specs.Layout.{trim_end}
use Rattle.ti_source.proofs.layout.trim_end.Given as goal

abbrev pub invariant-loop-rest : goal.invariant-loop-rest
invariant-loop-rest l = trim_end l.rest ≡ trim_end l.bytes

abbrev pub decreases-loop-rest : goal.decreases-loop-rest
decreases-loop-rest l = length l.rest
