-- The words of the refusal of a certificate: its line, its kind, and a capability with its parameters.
use Rattle.std.specs.Prelude.{◌≡◌, ℕ, List, [], ◌++◌, codes}
use Rattle.std.specs.Fmt.{decimal}
use Rattle.ti_caps.specs.Table.{name_at}
use Rattle.ti_cert.specs.declared.faults.AgreeFault.TheVariants as agree_faults
use Rattle.ti_cert.specs.Certificates.{CertFault}
use Rattle.ti_cert.specs.declared.faults.CertFaultKind.{CertFaultKind}
use Rattle.ti_cert.specs.declared.faults.CertFaultKind.TheVariants.{BadLine, Missing, OutOfOrder, NotWhole, NotTame}
use Rattle.ti_cert.specs.declared.faults.CertFaultKind.TheVariants.{NotShown, NoResync, BadLook, NoMemory, ReadFailed}
use Rattle.ti_cert.specs.declared.faults.VerifyFault.{VerifyFault}
use Rattle.ti_cert.specs.declared.faults.VerifyFault.TheVariants.{Cert, Agree}
use Rattle.ti_files.specs.Failures.{IsFileFailure}
use Rattle.ti_files.specs.declared.failure.Failure.{Failure}
use Rattle.ti_files.specs.declared.failure.Failure.TheVariants as failures
use Rattle.ti_verdicts.specs.Refusals.{IsVerdict}
use Rattle.ti_words.specs.Numbers.{numbers_text}

-- the part of a kind's words that comes before its capability
abbrev pub kind_name : CertFaultKind → List ℕ
kind_name BadLine = codes "BadLine"
kind_name (Missing cap numbers) = codes "Missing "
kind_name OutOfOrder = codes "OutOfOrder"
kind_name NotWhole = codes "NotWhole"
kind_name NotTame = codes "NotTame"
kind_name NotShown = codes "NotShown"
kind_name NoResync = codes "NoResync"
kind_name BadLook = codes "BadLook"
kind_name NoMemory = codes "NoMemory"
kind_name ReadFailed = codes "ReadFailed"

abbrev pub kind_cap : CertFaultKind → List ℕ
kind_cap (Missing cap numbers) = name_at cap ++ numbers_text numbers.items
kind_cap _ = []

-- `line N: KIND`, and the capability that the kind has
abbrev pub fault_text : CertFault → List ℕ
fault_text fault =
    codes "line " ++ (decimal fault.line ++ (codes ": " ++ (kind_name fault.kind ++ kind_cap fault.kind)))

-- `Disagree CAP P..`
abbrev pub disagreement_text : ℕ → List ℕ → List ℕ
disagreement_text cap numbers = codes "Disagree " ++ (name_at cap ++ numbers_text numbers)

-- the failure to report for a kind of fault
abbrev pub IsOfKind : List ℕ → List ℕ → CertFaultKind → Failure → Type 0
IsOfKind path text NoMemory failure = failure ≡ failures.NoMemory
IsOfKind path text ReadFailed failure = IsFileFailure path failure
IsOfKind path text _ failure = IsVerdict text failure

-- the failure of this fault of a path's certificate
abbrev pub TellsFault : List ℕ → VerifyFault → Failure → Type 0
TellsFault path (Cert fault) failure = IsOfKind path (fault_text fault) fault.kind failure
TellsFault path (Agree (agree_faults.Disagree cap numbers)) failure =
    IsVerdict (disagreement_text cap numbers.items) failure
TellsFault path (Agree agree_faults.NoMemory) failure = failure ≡ failures.NoMemory
