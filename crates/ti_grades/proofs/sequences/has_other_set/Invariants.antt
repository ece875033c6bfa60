use Rattle.std.proofs.Common.{◌≡◌, length}
use Rattle.ti_grades.specs.Sequences.{has_other_set}
use Rattle.ti_grades.proofs.sequences.has_other_set.Given as goal

abbrev pub invariant-loop-text : goal.invariant-loop-text
invariant-loop-text l = has_other_set l.text ≡ has_other_set l.bytes

abbrev pub decreases-loop-text : goal.decreases-loop-text
decreases-loop-text l = length l.text
