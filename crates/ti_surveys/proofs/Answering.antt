-- The answer of a refusal.
use Rattle.std.proofs.Common.{◌≡◌, ◌≢◌, ◌⊎◌, ◌++◌, ℕ, List, Result, Ok, Err, IfOk, codes, inr}
use Rattle.ti_checker.specs.declared.causes.Cause.TheVariants.{NoMemory}
use Rattle.ti_checker.specs.declared.causes.No.{No}
use Rattle.ti_surveys.specs.Answers.{HasNo, HasYes, one_line}
use Rattle.ti_verdicts.specs.Refusals.{no_text}
use Rattle.ti_surveys.specs.Told.{Told}
use Rattle.ti_verdicts.specs.declared.answers.Answer.TheVariants as answers

pub as_no : {V E : Type 0} (told : V → Told) (Certifies : List ℕ → Type 0) (Refuses : No → Type 0) (name : List ℕ) (refusal : No) (r : Result V E) → Refuses refusal → IfOk r (λ said. refusal.cause ≢ NoMemory)
    → IfOk r (λ said. told said ≡ one_line name (codes " " ++ no_text refusal) (answers.No refusal.cause)) → IfOk r (λ said. HasYes Certifies name (told said) ⊎ HasNo Refuses name (told said))
as_no told Certifies Refuses name refusal (Ok said) refused claims says = inr (record { refusal = refusal; refused = refused; claims = claims; says = says })
as_no told Certifies Refuses name refusal (Err fault) refused claims says = tt
