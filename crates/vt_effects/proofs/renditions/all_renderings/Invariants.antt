-- Applying the remaining numbers now gives the same rendering as applying all of them at the start.
use Rattle.std.proofs.Common.{◌≡◌, drop}
use Rattle.vt_effects.specs.Record.{all_renderings}
use Rattle.vt_effects.proofs.renditions.all_renderings.Given as goal

abbrev pub invariant-loop-number : goal.invariant-loop-number
invariant-loop-number l = all_renderings (drop l.number-index l.numbers) l.now ≡ all_renderings l.numbers l.fn.now
