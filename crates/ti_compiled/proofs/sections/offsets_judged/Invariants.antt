use Rattle.std.proofs.Common.{◌≡◌, length}
use Rattle.ti_compiled.specs.Layout.{words}
use Rattle.ti_compiled.specs.Readings.{offsets_judged}
use Rattle.ti_compiled.proofs.sections.offsets_judged.Given as goal

abbrev pub invariant-loop-rest : goal.invariant-loop-rest
invariant-loop-rest l = offsets_judged l.table (words l.rest) ≡ offsets_judged l.table (words l.offsets)

abbrev pub decreases-loop-rest : goal.decreases-loop-rest
decreases-loop-rest l = length l.rest
