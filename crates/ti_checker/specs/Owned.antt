-- The table of an entry's own certificate, and why that certificate may be refused.
use Rattle.std.specs.Prelude.{ℕ, ◌≡◌, List}
use Rattle.ti_caps.specs.Entry.{Content}
use Rattle.ti_cert.specs.Disagreements.{IsAgreeRefused}
use Rattle.ti_cert.specs.Table.{CheckedTable}
use Rattle.ti_cert.specs.Texts.{IsCertRefused, IsTableOf}
use Rattle.ti_cert.specs.declared.faults.AgreeFault.TheVariants as agrees
use Rattle.ti_cert.specs.declared.faults.CertFaultKind.TheVariants as certs
use Rattle.ti_cert.specs.declared.faults.VerifyFault.{VerifyFault}
use Rattle.ti_cert.specs.declared.faults.VerifyFault.TheVariants.{Cert, Agree}
use Rattle.ti_checker.specs.Certificate.{IsCertificateOf}
use Rattle.ti_conforms.specs.Conforms.{IsFit}

-- an audit of the entry's own certificate makes this table
pub record IsOwnTable (entry : Content) (rows cols : ℕ) (checked : CheckedTable) : Type 0 where
  pub text : List ℕ
  pub certificate : IsCertificateOf entry rows cols text
  pub accepted : IsTableOf rows cols text checked

-- memory ran out
abbrev pub IsMemory : VerifyFault → Type 0
IsMemory (Cert fault) = fault.kind ≡ certs.NoMemory
IsMemory (Agree fault) = fault ≡ agrees.NoMemory

-- an entry's own certificate is refused only when memory runs out
abbrev pub OwnIsAccepted : Type 0
OwnIsAccepted =
    (entry : Content) (rows cols : ℕ) (text : List ℕ) (fault : VerifyFault) → IsFit entry
    → IsCertificateOf entry rows cols text → IsCertRefused rows cols text ⊥ fault
    → IsAgreeRefused rows cols text entry fault → IsMemory fault
