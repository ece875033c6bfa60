-- The failure of a survey that fails if an entry isn't right.
use Rattle.std.specs.Prelude.{◌≡◌, ◌&&◌, Bool, true, false, not, List, Option, Some, None, codes}
use Rattle.std.specs.List.{list_all}
use Rattle.ti_files.specs.declared.failure.CommandRefusal.TheVariants.{Verdict}
use Rattle.ti_files.specs.declared.failure.Failure.{Failure}
use Rattle.ti_files.specs.declared.failure.Failure.TheVariants.{Refused}
use Rattle.ti_verdicts.specs.declared.answers.Answer.{Answer}
use Rattle.ti_verdicts.specs.declared.answers.Answer.TheVariants as answers

-- the answers that a strict survey passes
abbrev pub passes : Answer → Bool
passes answers.Yes = true
passes (answers.No cause) = false
passes answers.OtherKind = false
passes answers.Part = true
passes answers.Refused = false

-- the failure of a survey with an answer that doesn't pass
abbrev pub IsFaulty : Option Failure → Type 0
IsFaulty (Some (Refused (Verdict words))) = words.items ≡ codes "Faulty"
IsFaulty _ = ⊥

abbrev pub FailsIf : Bool → Option Failure → Type 0
FailsIf true ended = IsFaulty ended
FailsIf false ended = ended ≡ None

-- The end of a survey whose lines have these answers, with the failure of the paths. A path that can't be read comes
-- first; else a strict survey fails if some answer doesn't pass.
abbrev pub EndsStrictly : Bool → List Answer → Option Failure → Option Failure → Type 0
EndsStrictly is_strict answered (Some failure) ended = ended ≡ Some failure
EndsStrictly is_strict answered None ended = FailsIf (is_strict && not (list_all passes answered)) ended
