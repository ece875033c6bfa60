-- The exit status of the program.
use Rattle.std.specs.Prelude.{◌≡◌, ◌⊎◌, ℕ, Bool, true, false, Option, Some, None}
use Rattle.ti_files.specs.declared.failure.Failure.{Failure}
use Rattle.ti_files.specs.declared.failure.Failure.TheVariants.{Refused, RefusedUnwritten, Usage, File, Output}
use Rattle.ti_files.specs.declared.failure.Failure.TheVariants.{NoMemory}

-- 0 is the status of success alone
abbrev pub status_of : Failure → ℕ
status_of (Refused refusal) = 1
status_of (RefusedUnwritten refusal) = 1
status_of (Usage text) = 2
status_of (File path) = 3
status_of Output = 3
status_of NoMemory = 4

-- the failure of a reply; a refusal also says whether the output failed
abbrev pub IsUnwritten : Failure → Bool → Failure → Type 0
IsUnwritten (Refused refusal) true failure = failure ≡ RefusedUnwritten refusal
IsUnwritten told unwritten failure = failure ≡ told

-- the end of a reply with this failure or none, whose text was `written` or whose output has failed
abbrev pub EndsAs : Option Failure → Type 0 → Bool → Failure → Type 0
EndsAs None written failed failure = (failure ≡ Output) × (failed ≡ true)
EndsAs (Some told) written failed failure =
    (IsUnwritten told false failure × written) ⊎ (IsUnwritten told true failure × (failed ≡ true))
