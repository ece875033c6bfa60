-- Kinds of entries, which a list of all faults treats apart.
use Rattle.std.specs.Prelude.{Bool, true, false, List, [], ◌∷◌, if◌then◌else◌, map}
use Rattle.ti_caps.specs.Entry.{Content}
use Rattle.ti_checker.specs.declared.causes.No.{No}
use Rattle.ti_faults.specs.Remedies.{is_of_another_kind}
use Rattle.ti_surveys.specs.Parts.{is_part}
use Rattle.ti_surveys.specs.declared.kinds.EntryKind.{EntryKind}
use Rattle.ti_surveys.specs.declared.kinds.EntryKind.TheVariants.{Other, Part, Usual}
use Rattle.ti_verdicts.specs.FaultAnswers.{fault_answer}
use Rattle.ti_verdicts.specs.declared.answers.Answer.{Answer}
use Rattle.ti_verdicts.specs.declared.answers.Answer.TheVariants as answers

-- the kind of an entry with these faults: an entry that is only there to be used is no other, whatever its faults are
abbrev pub listed_kind : Content → List No → EntryKind
listed_kind entry nos = if is_part entry then Part else (if is_of_another_kind nos then Other else Usual)

-- the kind of an entry, where all its faults are listed; else each entry is a usual one
abbrev pub kind_of : Bool → Content → List No → EntryKind
kind_of true entry nos = listed_kind entry nos
kind_of false entry nos = Usual

-- an answer for each fault, or yes
abbrev pub usual_answers : List No → List Answer
usual_answers [] = answers.Yes ∷ []
usual_answers (first ∷ others) = map fault_answer (first ∷ others)

-- the answers about an entry of this kind with these faults
abbrev pub kind_answers : EntryKind → List No → List Answer
kind_answers Part nos = answers.Part ∷ []
kind_answers Other nos = answers.OtherKind ∷ []
kind_answers Usual nos = usual_answers nos
