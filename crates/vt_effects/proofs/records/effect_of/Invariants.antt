-- Applying the remaining tokens now gives the same effect as applying all of them at the start.
use Rattle.std.proofs.Common.{◌≡◌, drop}
use Rattle.vt_effects.specs.Effect.{unchanged}
use Rattle.vt_effects.specs.Record.{all_extended}
use Rattle.vt_effects.proofs.records.effect_of.Given as goal

abbrev pub invariant-loop-token : goal.invariant-loop-token
invariant-loop-token l = all_extended l.size.rows l.size.cols l.start (drop l.token-index l.tokens) l.effect ≡ all_extended l.size.rows l.size.cols l.start l.tokens unchanged
