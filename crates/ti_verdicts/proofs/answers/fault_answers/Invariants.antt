use Rattle.std.proofs.Common.{◌≡◌, map, take}
use Rattle.ti_verdicts.specs.FaultAnswers.{fault_answer}
use Rattle.ti_verdicts.proofs.answers.fault_answers.Given as goal

-- the faults before this one have their answers
abbrev pub invariant-loop-no : goal.invariant-loop-no
invariant-loop-no l = l.answers.items ≡ map fault_answer (take l.no-index l.nos)
