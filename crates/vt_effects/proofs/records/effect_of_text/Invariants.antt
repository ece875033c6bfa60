-- The text read so far is tokens, and the effect is theirs.
use Rattle.std.proofs.Common.{◌-◌, length}
use Rattle.vt_effects.proofs.Texts.{IsReached}
use Rattle.vt_effects.proofs.records.effect_of_text.Given as goal

abbrev pub invariant-loop-end : goal.invariant-loop-end
invariant-loop-end l = IsReached l.size.rows l.size.cols l.start l.text l.at l.effect

abbrev pub decreases-loop-end : goal.decreases-loop-end
decreases-loop-end l = length l.text - l.at
