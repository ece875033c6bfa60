-- The lines before the rest are answered.
use Rattle.std.proofs.Common.{length}
use Rattle.vt_states.proofs.Answered.{Answered}
use Rattle.vt_states.proofs.cases.case_answers.Given as goal

abbrev pub invariant-loop-rest : goal.invariant-loop-rest
invariant-loop-rest l = Answered l.size.rows l.size.cols l.file l.rest l.number l.text.items

abbrev pub decreases-loop-rest : goal.decreases-loop-rest
decreases-loop-rest l = length l.rest
