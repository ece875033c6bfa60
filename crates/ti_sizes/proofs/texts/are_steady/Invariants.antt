-- The tokens so far are steady.
use Rattle.std.proofs.Common.{take}
use Rattle.ti_sizes.specs.Steady as spec
use Rattle.ti_sizes.proofs.texts.are_steady.Given as goal

abbrev pub invariant-loop-count : goal.invariant-loop-count
invariant-loop-count l = spec.IsSteady l.row (take l.count l.tokens)
