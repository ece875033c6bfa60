-- The failure of a fault.
use Rattle.std.proofs.Common.{◌≡◌, ◌⊎◌, ℕ, List, Option, None, Some, IfSome, inl, inr, refl, subst}
use Rattle.ti_caps.specs.Entry.{Content}
use Rattle.ti_cert.specs.Disagreements.{IsAgreeRefused}
use Rattle.ti_cert.specs.Texts.{IsCertRefused, IsRefused}
use Rattle.ti_cert.specs.declared.faults.AgreeFault.{AgreeFault}
use Rattle.ti_cert.specs.Certificates.{CertFault}
use Rattle.ti_cert.specs.declared.faults.CertFaultKind.{CertFaultKind}
use Rattle.ti_cert.specs.declared.faults.VerifyFault.{VerifyFault}
use Rattle.ti_cert.specs.declared.faults.VerifyFault.TheVariants.{Cert, Agree}
use Rattle.ti_files.specs.Contents.{IsLeft}
use Rattle.ti_cert.specs.declared.faults.CertFaultKind.TheVariants.{BadLine, Missing, OutOfOrder, NotWhole, NotTame, NotShown, NoResync, BadLook, NoMemory, ReadFailed}
use Rattle.ti_files.specs.declared.failure.Failure.{Failure}
use Rattle.cur_commands.specs.Faults.{IsOfKind, TellsFault, fault_text}
use Rattle.cur_commands.specs.Verifications.{IsFaultOf, LacksCertificate}

-- ---- a certificate at a path

-- a property of the bytes that a reader of a path has left
pub known_left : (P : List ℕ → Type 0) (known remaining : Option (List ℕ)) → IsLeft known remaining → ((text : List ℕ) → remaining ≡ Some text → P text) → IfSome known P
known_left P None remaining left h = tt
known_left P (Some text) remaining left h = h text left

is_read_failed : (k : CertFaultKind) → (k ≡ ReadFailed) ⊎ (k ≡ ReadFailed → ⊥)
is_read_failed BadLine = inr (λ e. cc)
is_read_failed (Missing cap numbers) = inr (λ e. cc)
is_read_failed OutOfOrder = inr (λ e. cc)
is_read_failed NotWhole = inr (λ e. cc)
is_read_failed NotTame = inr (λ e. cc)
is_read_failed NotShown = inr (λ e. cc)
is_read_failed NoResync = inr (λ e. cc)
is_read_failed BadLook = inr (λ e. cc)
is_read_failed NoMemory = inr (λ e. cc)
is_read_failed ReadFailed = inl refl

-- a reader that failed gives a file's failure, and all else is a fault of the text
unfailed : (height width : ℕ) (text : List ℕ) (Failed : Type 0) (fault : CertFault) → (fault.kind ≡ ReadFailed → ⊥) → IsRefused height width text Failed fault → IsRefused height width text ⊥ fault
unfailed height width text Failed fault other (inl h) = inl h
unfailed height width text Failed fault other (inr (inl h)) = inr (inl h)
unfailed height width text Failed fault other (inr (inr h)) = absurd (other h.0)

pub cert_lacks : (known remaining : Option (List ℕ)) (height width : ℕ) (entry : Content) (path : List ℕ) (Failed : Type 0) (told : VerifyFault) (fault : CertFault) (failure : Failure) → told ≡ Cert fault → IsLeft known remaining
    → ((text : List ℕ) → remaining ≡ Some text → IsCertRefused height width text Failed told) → TellsFault path (Cert fault) failure → LacksCertificate known height width entry path failure
cert_lacks known remaining height width entry path Failed told fault failure is left refused tells = elim (is_read_failed fault.kind) [
  | inl failed ↦ inl (subst (λ (k : CertFaultKind). IsOfKind path (fault_text fault) k failure) failed tells)
  | inr other ↦ inr (
    Cert fault,
    known_left (λ text. IsFaultOf height width entry text (Cert fault)) known remaining left
        (λ text l. record { first = unfailed height width text Failed fault other (subst (λ (t : VerifyFault). IsCertRefused height width text Failed t) is (refused text l)); differs = tt }),
    tells,
  )
]

pub agree_lacks : (known remaining : Option (List ℕ)) (height width : ℕ) (entry : Content) (path : List ℕ) (told : VerifyFault) (fault : AgreeFault) (failure : Failure) → told ≡ Agree fault → IsLeft known remaining
    → ((text : List ℕ) → remaining ≡ Some text → IsAgreeRefused height width text entry told) → TellsFault path (Agree fault) failure → LacksCertificate known height width entry path failure
agree_lacks known remaining height width entry path told fault failure is left differs tells =
    inr (
      Agree fault,
      known_left (λ text. IsFaultOf height width entry text (Agree fault)) known remaining left
          (λ text l. record { first = tt; differs = subst (λ (t : VerifyFault). IsAgreeRefused height width text entry t) is (differs text l) }),
      tells,
    )
