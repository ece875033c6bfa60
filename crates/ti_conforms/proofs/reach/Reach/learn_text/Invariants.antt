-- The part of the text read so far consists of tokens, and their marks were added.
use Rattle.std.proofs.Common.{◌-◌, length}
use Rattle.ti_conforms.proofs.Texts.{IsLearned}
use Rattle.ti_conforms.proofs.reach.Reach.learn_text.Given as goal

abbrev pub invariant-loop-end : goal.invariant-loop-end
invariant-loop-end l = IsLearned l.initial.self l.text l.at l.self

abbrev pub decreases-loop-end : goal.decreases-loop-end
decreases-loop-end l = length l.text - l.at
