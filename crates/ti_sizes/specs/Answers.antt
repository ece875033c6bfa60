-- The answers to the question whether an entry is right at every size.
use Rattle.std.specs.Prelude.{ℕ, ◌≢◌, List}
use Rattle.vt_term.specs.Size.{max_rows, max_cols}
use Rattle.ti_caps.specs.Entry.{Content}
use Rattle.ti_conforms.specs.Conforms.{Conforms}
use Rattle.ti_checker.specs.Certificate.{IsCertificateOf}
use Rattle.ti_checker.specs.No.{IsNo}
use Rattle.ti_checker.specs.declared.causes.Cause.TheVariants.{NoMemory}
use Rattle.ti_checker.specs.declared.causes.No.{No as Refusal}
use Rattle.ti_sizes.specs.EverySize.{IsRightAtEverySize}
use Rattle.ti_sizes.specs.declared.verdicts.EverySize.{EverySize}
use Rattle.ti_sizes.specs.declared.verdicts.EverySize.TheVariants.{Yes, No, Undecided}
use Rattle.ti_sizes.specs.declared.verdicts.Doubt.{Doubt}
use Rattle.ti_sizes.specs.declared.verdicts.Doubt.TheVariants as doubts

-- a refusal of the entry at this size that is true, and isn't for want of memory
pub record IsNoAt (entry : Content) (rows cols : ℕ) (refusal : Refusal) : Type 0 where
  pub refused : IsNo entry rows cols refusal
  pub claims : refusal.cause ≢ NoMemory

-- the entry is right at the three sizes that are tried
pub record IsRightWhereTried (entry : Content) : Type 0 where
  pub least : Conforms entry 2 2
  pub common : Conforms entry 24 80
  pub greatest : Conforms entry max_rows max_cols

abbrev pub IsAnswer : Content → EverySize → Type 0
IsAnswer entry Yes = IsRightAtEverySize entry
IsAnswer entry (No size refusal) = IsNoAt entry size.rows size.cols refusal
IsAnswer entry (Undecided cap) = IsRightWhereTried entry

-- (Serves the code alone.) A true answer other than a yes; or memory ran out.
abbrev pub IsDoubt : Content → Doubt → Type 0
IsDoubt entry (doubts.Because Yes) = ⊥
IsDoubt entry (doubts.Because (No size refusal)) = IsNoAt entry size.rows size.cols refusal
IsDoubt entry (doubts.Because (Undecided cap)) = IsRightWhereTried entry
IsDoubt entry doubts.NoMemory = Unit {0}

-- (Serves the code alone.) The entry has a certificate for the greatest size.
pub record HasGreatest (entry : Content) : Type 0 where
  pub text : List ℕ
  pub certificate : IsCertificateOf entry max_rows max_cols text
