-- The lines of `survey --every-size`: one for each entry, with its answer. Their words are free.
use Rattle.std.specs.Prelude.{◌≡◌, ℕ, [], ◌∷◌}
use Rattle.ti_caps.specs.Entry.{Content}
use Rattle.ti_checker.specs.declared.causes.No.{No}
use Rattle.ti_sizes.specs.Answers.{IsNoAt, IsRightWhereTried}
use Rattle.ti_sizes.specs.EverySize.{IsRightAtEverySize}
use Rattle.ti_surveys.specs.Told.{Told}
use Rattle.ti_verdicts.specs.declared.answers.Answer.{Answer}
use Rattle.ti_verdicts.specs.declared.answers.Answer.TheVariants as answers

-- the answer is true of the entry; here the one for another kind of terminal is taken for a doubt
abbrev pub IsTrueOf : Content → Answer → Type 0
IsTrueOf entry answers.Yes = IsRightAtEverySize entry
IsTrueOf entry (answers.No cause) =
    (rows : ℕ) × (cols : ℕ) × (refusal : No) × IsNoAt entry rows cols refusal × (refusal.cause ≡ cause)
IsTrueOf entry answers.OtherKind = IsRightWhereTried entry
IsTrueOf entry answers.Part = ⊥
IsTrueOf entry answers.Refused = ⊥

-- the statement about an entry has one answer, which is true of it, and no places
pub record Says (entry : Content) (told : Told) : Type 0 where
  pub answer : Answer
  pub is_true : IsTrueOf entry answer
  pub answers : told.answers ≡ answer ∷ []
  pub places : told.places ≡ []

-- so has the one about an entry that can't be obtained
pub record Refuses (told : Told) : Type 0 where
  pub answers : told.answers ≡ answers.Refused ∷ []
  pub places : told.places ≡ []
