use Rattle.std.proofs.Common.{◌≡◌, length}
use Rattle.ti_grades.specs.Codes.{has_code}
use Rattle.ti_grades.proofs.codes.has_code.Given as goal

abbrev pub invariant-loop-text : goal.invariant-loop-text
invariant-loop-text l = has_code l.kind l.text ≡ has_code l.kind l.string

abbrev pub decreases-loop-text : goal.decreases-loop-text
decreases-loop-text l = length l.text
