-- The faults of an entry as a whole, whatever its strings send (terminfo(5), "Predefined Capabilities").
use Rattle.std.specs.Prelude.{ℕ, ◌≡◌, ◌<◌, ◌++◌, not, if◌then◌else◌, Bool, false, List, [], ◌∷◌, Some, is_some, map}
use Rattle.ti_caps.specs.Entry.{Content, flag_at, number_at, string_at}
use Rattle.ti_conforms.specs.Alternates.{is_misfit}
use Rattle.ti_conforms.specs.Conforms.{xmc, hc, gn, os}
use Rattle.ti_conforms.specs.Entries.{acsc, has_string}
use Rattle.ti_conforms.specs.Unfit.{HasMisfit}
use Rattle.ti_rows.specs.declared.rows.Row.TheVariants.{Clear, Cup, Sgr0}
use Rattle.ti_rows.specs.Names.{cap_of}
use Rattle.ti_checker.specs.declared.causes.Cause.{Cause}
use Rattle.ti_checker.specs.declared.causes.Cause.TheVariants.{FlagOut, Absent, AcsByte}
use Rattle.ti_checker.specs.declared.causes.No.{No}

-- the contents of a refusal: the capability, its parameters, and the cause
pub record Said : Type 0 where
  pub cap : ℕ
  pub params : List ℕ
  pub cause : Cause

abbrev pub said_by : No → Said
said_by refusal = record { cap = refusal.cap; params = refusal.params.items; cause = refusal.cause }

-- a fault of a capability as a whole
abbrev pub said_of : ℕ → Cause → Said
said_of cap cause = record { cap = cap; params = []; cause = cause }

-- the fault, if the condition is true
abbrev pub if_so : Bool → Said → List Said
if_so b said = if b then said ∷ [] else []

-- each of `xmc`, `hc`, `gn` and `os` that the entry has
abbrev pub flags_out : Content → List Said
flags_out entry =
    ((if_so (is_some (number_at entry xmc)) (said_of xmc FlagOut)
    ++ if_so (flag_at entry hc) (said_of hc FlagOut))
    ++ if_so (flag_at entry gn) (said_of gn FlagOut))
    ++ if_so (flag_at entry os) (said_of os FlagOut)

-- each of `clear`, `cup` and `sgr0` that the entry lacks
abbrev pub lacking : Content → List Said
lacking entry =
    ((flags_out entry
    ++ if_so (not (has_string entry Clear)) (said_of (cap_of Clear) Absent))
    ++ if_so (not (has_string entry (Cup 0 0))) (said_of (cap_of (Cup 0 0)) Absent))
    ++ if_so (not (has_string entry Sgr0)) (said_of (cap_of Sgr0) Absent)

-- no letter of line graphics is listed with a partner that can't be printed
abbrev pub HasNoMisfit : Content → Type 0
HasNoMisfit entry =
    (pairs : List ℕ) → string_at entry acsc ≡ Some pairs → (letter : ℕ) → letter < 256 → is_misfit pairs letter ≡ false

-- the faults of `acsc`
pub data OfPairs (entry : Content) (said : List Said) : Type 0 where
  Unprinted : said ≡ said_of acsc AcsByte ∷ [] → HasMisfit entry → OfPairs entry said
  Printed : said ≡ [] → HasNoMisfit entry → OfPairs entry said

-- all faults of the entry as a whole
pub record Lacks (entry : Content) (nos : List No) : Type 0 where
  pub pairs : List Said
  pub of_pairs : OfPairs entry pairs
  pub are : map said_by nos ≡ lacking entry ++ pairs

-- ---- (Serves the code alone.) faults that are added

abbrev pub Adds : List Said → List No → List No → Type 0
Adds said old new = map said_by new ≡ map said_by old ++ said

pub record AddsPairs (entry : Content) (old new : List No) : Type 0 where
  pub pairs : List Said
  pub of_pairs : OfPairs entry pairs
  pub added : Adds pairs old new
