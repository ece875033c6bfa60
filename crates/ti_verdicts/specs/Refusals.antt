-- The words of the refusal of an entry: a capability, its parameters and the cause.
use Rattle.std.specs.Prelude.{◌≡◌, ℕ, List, ◌++◌, codes}
use Rattle.ti_caps.specs.Table.{name_at}
use Rattle.ti_checker.specs.declared.causes.Cause.{Cause}
use Rattle.ti_checker.specs.declared.causes.Cause.TheVariants as causes
use Rattle.ti_checker.specs.declared.causes.No.{No}
use Rattle.ti_words.specs.Numbers.{numbers_text}
use Rattle.ti_files.specs.Refusals.{parm_name}
use Rattle.ti_files.specs.declared.failure.Failure.{Failure}
use Rattle.ti_files.specs.declared.failure.Failure.TheVariants as failures
use Rattle.ti_files.specs.declared.failure.CommandRefusal.TheVariants.{Verdict}

-- the verdict has these words
abbrev pub IsVerdict : List ℕ → Failure → Type 0
IsVerdict text (failures.Refused (Verdict words)) = words.items ≡ text
IsVerdict text failures.NoMemory = Unit {0}
IsVerdict text _ = ⊥

abbrev pub cause_name : Cause → List ℕ
cause_name causes.FlagOut = codes "FlagOut"
cause_name causes.Absent = codes "Absent"
cause_name causes.AcsByte = codes "AcsByte"
cause_name (causes.Parm fault) = parm_name fault
cause_name causes.StaticRead = codes "StaticRead"
cause_name causes.Unfinished = codes "Unfinished"
cause_name causes.Stuck = codes "Stuck"
cause_name causes.NotTame = codes "NotTame"
cause_name causes.BadLook = codes "BadLook"
cause_name (causes.WrongEffect probe) = codes "WrongEffect"
cause_name causes.NotShown = codes "NotShown"
cause_name causes.TooLong = codes "TooLong"
cause_name causes.NoResync = codes "NoResync"
cause_name causes.NoMemory = codes "NoMemory"

-- `no CAP P..: CAUSE`
abbrev pub no_text : No → List ℕ
no_text refusal = codes "no "
    ++ (name_at refusal.cap ++ (numbers_text refusal.params.items ++ (codes ": " ++ cause_name refusal.cause)))

-- the failure to report for a cause
abbrev pub IsOfCause : List ℕ → Cause → Failure → Type 0
IsOfCause text causes.NoMemory failure = failure ≡ failures.NoMemory
IsOfCause text _ failure = IsVerdict text failure

-- the failure to report for a refusal
abbrev pub TellsNo : No → Failure → Type 0
TellsNo refusal failure = IsOfCause (no_text refusal) refusal.cause failure
