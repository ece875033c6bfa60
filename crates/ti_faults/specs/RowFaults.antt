-- The first faulty row of each checked capability, in the order of a certificate's lines.
use Rattle.std.specs.Prelude.{ℕ, zero, suc, ◌≡◌, ◌≢◌, ◌<◌, ◌++◌, true, List, [], ◌∷◌}
use Rattle.ti_caps.specs.Entry.{Content}
use Rattle.ti_conforms.specs.Entries.{is_checked}
use Rattle.ti_rows.specs.declared.rows.Row.{Row}
use Rattle.ti_rows.specs.Lists.{IsInRange, rank}
use Rattle.ti_rows.specs.Names.{cap_of, order}
use Rattle.ti_rows.specs.Params.{params}
use Rattle.ti_checker.specs.First.{CapStands, RowStands, SendsAsked}
use Rattle.ti_checker.specs.No.{IsFaulty, HasFaultyString}
use Rattle.ti_checker.specs.declared.causes.Cause.TheVariants.{NoMemory}
use Rattle.ti_checker.specs.declared.causes.No.{No}

-- the refusal names a row of the capability that is at fault, and the capability's rows before it stand
pub record IsCapFault (entry : Content) (rows cols place : ℕ) (refusal : No) : Type 0 where
  pub row : Row
  pub of_cap : order row ≡ place
  pub cap_is : refusal.cap ≡ cap_of row
  pub params_are : refusal.params.items ≡ params row
  pub range : IsInRange rows cols row
  pub checked : is_checked entry row ≡ true
  pub fault : HasFaultyString entry rows cols row refusal.cause
  pub earlier : (other : Row) → IsInRange rows cols other → order other ≡ place
      → rank rows cols other < rank rows cols row → RowStands entry rows cols other

-- the faults of the capability at a place: none if each row stands; or the first fault
pub data OfCap (entry : Content) (rows cols place : ℕ) (nos : List No) : Type 0 where
  Stands : nos ≡ [] → CapStands entry rows cols place → OfCap entry rows cols place nos
  Fails : (refusal : No) → nos ≡ refusal ∷ [] → refusal.cause ≢ NoMemory → IsCapFault entry rows cols place refusal
      → OfCap entry rows cols place nos

-- the faults of the first capabilities in the order of names, one after another
unfoldable pub OfCaps : Content → ℕ → ℕ → ℕ → List No → Type 0
OfCaps entry rows cols zero nos = nos ≡ []
OfCaps entry rows cols (suc n) nos =
    (front : List No) × (own : List No) × (nos ≡ front ++ own) × OfCaps entry rows cols n front
    × OfCap entry rows cols n own

-- ---- (Serves the code alone.) the rows of a string, and faults that are added

abbrev pub SendsAllAsked : ℕ → ℕ → List ℕ → ℕ → Type 0
SendsAllAsked rows cols string place =
    (row : Row) → IsInRange rows cols row → order row ≡ place → SendsAsked rows cols string row

-- the rows before the one of this rank send what is asked for
abbrev pub SendsAskedBefore : ℕ → ℕ → List ℕ → ℕ → ℕ → Type 0
SendsAskedBefore rows cols string place k =
    (row : Row) → IsInRange rows cols row → order row ≡ place → rank rows cols row < k → SendsAsked rows cols string row

pub record IsStringFault (rows cols : ℕ) (string : List ℕ) (place : ℕ) (refusal : No) : Type 0 where
  pub row : Row
  pub of_cap : order row ≡ place
  pub cap_is : refusal.cap ≡ cap_of row
  pub params_are : refusal.params.items ≡ params row
  pub range : IsInRange rows cols row
  pub faulty : IsFaulty rows cols string row refusal.cause
  pub earlier : SendsAskedBefore rows cols string place (rank rows cols row)

pub record AddsCap (entry : Content) (rows cols place : ℕ) (old new : List No) : Type 0 where
  pub own : List No
  pub added : new ≡ old ++ own
  pub of_cap : OfCap entry rows cols place own
