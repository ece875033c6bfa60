-- The words by which answers are counted.
use Rattle.std.specs.Prelude.{ℕ, List, codes}
use Rattle.ti_verdicts.specs.Refusals.{cause_name}
use Rattle.ti_verdicts.specs.declared.answers.Answer.{Answer}
use Rattle.ti_verdicts.specs.declared.answers.Answer.TheVariants.{Yes, No, OtherKind, Part, Refused}

-- the word by which an answer is counted
abbrev pub answer_name : Answer → List ℕ
answer_name Yes = codes "yes"
answer_name (No cause) = cause_name cause
answer_name OtherKind = codes "OtherKind"
answer_name Part = codes "part"
answer_name Refused = codes "refused"
