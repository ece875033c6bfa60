-- Applying the remaining numbers now gives the same effect as applying all of them at the start.
use Rattle.std.proofs.Common.{◌≡◌, drop}
use Rattle.vt_effects.specs.Record.{modes_set}
use Rattle.vt_effects.proofs.records.modes_set.Given as goal

abbrev pub invariant-loop-number : goal.invariant-loop-number
invariant-loop-number l = modes_set l.kind l.on (drop l.number-index l.numbers) l.effect ≡ modes_set l.kind l.on l.numbers l.fn.effect
