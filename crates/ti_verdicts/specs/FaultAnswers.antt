-- The answer that a fault is counted as.
use Rattle.ti_checker.specs.declared.causes.No.{No}
use Rattle.ti_verdicts.specs.declared.answers.Answer.{Answer}
use Rattle.ti_verdicts.specs.declared.answers.Answer.TheVariants as answers

-- a fault counts as a refusal with its cause
abbrev pub fault_answer : No → Answer
fault_answer refusal = answers.No refusal.cause
