-- All faults of an entry: of the entry as a whole, of single rows, and of the strings that stand, all together.
use Rattle.std.specs.Prelude.{ℕ, ◌≡◌, ◌≢◌, ◌++◌, List, [], ◌∷◌}
use Rattle.ti_caps.specs.Entry.{Content}
use Rattle.ti_conforms.specs.Conforms.{Conforms}
use Rattle.ti_checker.specs.Certificate.{IsCertificateOf}
use Rattle.ti_checker.specs.Clashes.{AreClashes}
use Rattle.ti_checker.specs.No.{IsNo}
use Rattle.ti_checker.specs.declared.causes.Cause.TheVariants.{NoMemory}
use Rattle.ti_checker.specs.declared.causes.No.{No}
use Rattle.ti_faults.specs.Lacks.{Lacks}
use Rattle.ti_faults.specs.RowFaults.{OfCaps}
use Rattle.ti_rows.specs.Names.{capabilities}

-- these refusals, or `refusal` alone if there are none
abbrev pub or_one : List No → No → List No
or_one [] refusal = refusal ∷ []
or_one (first ∷ nos) refusal = first ∷ nos

-- the entry conforms, and has a certificate
pub record HasCertificate (entry : Content) (rows cols : ℕ) : Type 0 where
  pub conforms : Conforms entry rows cols
  pub text : List ℕ
  pub certificate : IsCertificateOf entry rows cols text

-- The faults of an entry that gets a refusal of `check`, other than for memory: three lists, one after another. They
-- have the faults of the entry as a whole; the first faulty row of each checked capability; and the clashes over the
-- rows that stand. If all three are empty, the refusal is listed alone: then the certificate would be too long.
pub record AreFaults (entry : Content) (rows cols : ℕ) (nos : List No) : Type 0 where
  pub refusal : No
  pub refused : IsNo entry rows cols refusal
  pub claims : refusal.cause ≢ NoMemory
  pub whole : List No
  pub of_whole : Lacks entry whole
  pub single : List No
  pub of_single : OfCaps entry rows cols capabilities single
  pub together : List No
  pub of_together : AreClashes entry rows cols together
  pub are : nos ≡ or_one ((whole ++ single) ++ together) refusal

-- all faults of an entry: none exactly if there is a certificate
pub data AreAllFaults (entry : Content) (rows cols : ℕ) (nos : List No) : Type 0 where
  NoFault : nos ≡ [] → HasCertificate entry rows cols → AreAllFaults entry rows cols nos
  Faulty : AreFaults entry rows cols nos → AreAllFaults entry rows cols nos
