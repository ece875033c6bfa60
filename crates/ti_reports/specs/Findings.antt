-- The faults that are reported of an entry: the first one, or all of them.
use Rattle.std.specs.Prelude.{◌≡◌, ◌≢◌, ℕ, Bool, true, false, List, [], ◌∷◌}
use Rattle.ti_caps.specs.Entry.{Content}
use Rattle.ti_checker.specs.No.{IsNo}
use Rattle.ti_checker.specs.declared.causes.Cause.TheVariants.{NoMemory}
use Rattle.ti_checker.specs.declared.causes.No.{No}
use Rattle.ti_faults.specs.AllFaults.{AreAllFaults, HasCertificate}

-- there is a certificate and no fault, or the list has one refusal, which is true and the first
pub data AreFirst (entry : Content) (rows cols : ℕ) (nos : List No) : Type 0 where
  NoFault : nos ≡ [] → HasCertificate entry rows cols → AreFirst entry rows cols nos
  Faulty : (refusal : No) → IsNo entry rows cols refusal → refusal.cause ≢ NoMemory → nos ≡ refusal ∷ []
      → AreFirst entry rows cols nos

abbrev pub AreFaults : Bool → Content → ℕ → ℕ → List No → Type 0
AreFaults true entry rows cols nos = AreAllFaults entry rows cols nos
AreFaults false entry rows cols nos = AreFirst entry rows cols nos
