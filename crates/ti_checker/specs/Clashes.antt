-- The clashes of those strings of an entry that are right by themselves: all that is wrong with them together.
use Rattle.std.specs.Prelude.{ℕ, ◌≡◌, ◌++◌, ◌&&◌, is_some, Bool, true, false, List, [], ◌∷◌, Option, Some, None}
use Rattle.std.specs.List.{list_any}
use Rattle.vt_term.specs.Screen.{Charset}
use Rattle.ti_caps.specs.Entry.{Content, string_at}
use Rattle.ti_rows.specs.declared.rows.Row.{Row}
use Rattle.ti_rows.specs.declared.rows.Row.TheVariants.{Clear, Smacs, Rmacs}
use Rattle.ti_rows.specs.Names.{cap_of}
use Rattle.ti_rows.specs.Starts.{IsFree}
use Rattle.ti_conforms.specs.Entries as entries
use Rattle.ti_conforms.specs.Resync.{resync_rows}
use Rattle.ti_conforms.specs.Table.{Table}
use Rattle.ti_cert.specs.Clashes.{Misswitches, SwitchesRight, StaysGraphic, BeginsOpen}
use Rattle.ti_cert.specs.declared.clashes.AllClashes.{AllClashes}
use Rattle.ti_checker.specs.Kept.{IsStanding, OfKept, OfAllKept, is_sent}
use Rattle.ti_checker.specs.No.{IsAbout}
use Rattle.ti_checker.specs.Probes.{screen_of}
use Rattle.ti_checker.specs.Switches.{RunsWrong}
use Rattle.ti_checker.specs.declared.causes.Cause.{Cause}
use Rattle.ti_checker.specs.declared.causes.Cause.TheVariants.{BadLook, WrongEffect, NoResync}
use Rattle.ti_checker.specs.declared.causes.No.{No}
use Rattle.ti_checker.specs.declared.probes.Probe.{Probe}

-- the refusals about `smacs` or `rmacs`: if it leaves the wrong set active from a charset that strings can leave, one
-- that names a start with such a charset; otherwise none
pub data OfSwitch (entry : Content) (rows cols : ℕ) (kept : ℕ → Bool) (row : Row) (nos : List No) : Type 0 where
  GoesWrong : (refusal : No) (p : Probe) → nos ≡ refusal ∷ [] → IsAbout refusal (cap_of row) (WrongEffect p)
      → OfKept entry rows cols kept (λ t. Misswitches t row p.charset)
      → OfKept entry rows cols kept (λ t. RunsWrong rows cols row p t) → OfSwitch entry rows cols kept row nos
  GoesRight : nos ≡ [] → OfAllKept entry rows cols kept (λ t. SwitchesRight t row)
      → OfSwitch entry rows cols kept row nos

-- the refusals about another capability: one if `Is` holds of the strings, otherwise none
pub data OfStrings (entry : Content) (rows cols : ℕ) (kept : ℕ → Bool) (cap : ℕ) (cause : Cause) (Is : Table → Type 0)
    (nos : List No) : Type 0 where
  IsSo : (refusal : No) → nos ≡ refusal ∷ [] → IsAbout refusal cap cause → OfKept entry rows cols kept Is
      → OfStrings entry rows cols kept cap cause Is nos
  IsNotSo : nos ≡ [] → OfAllKept entry rows cols kept (λ t. Is t → ⊥)
      → OfStrings entry rows cols kept cap cause Is nos

-- one of the strings that lead out of an unknown state stands: the entry has it, and it isn't at fault
abbrev pub some_leads : Content → ℕ → (ℕ → Bool) → Bool
some_leads entry rows kept = list_any (is_sent entry kept) (resync_rows rows)

-- The refusals about the bytes that lead out of an unknown state. Where none of their strings stands, nothing is sent,
-- so no ESC is missing: there is none then, and the strings have refusals of their own.
pub record OfWay (entry : Content) (rows cols : ℕ) (kept : ℕ → Bool) (nos : List No) : Type 0 where
  pub some : some_leads entry rows kept ≡ true
      → OfStrings entry rows cols kept (cap_of Clear) NoResync (λ t. BeginsOpen t) nos
  pub none : some_leads entry rows kept ≡ false → nos ≡ []

-- The clashes over the rows that stand: the table has exactly what the entry sends for each checked capability all rows
-- of which stand, and there is one refusal for each of the four clashes that it has. If each row stands, these are the
-- clashes of all strings. The entry needn't be fit, nor its certificate short enough: a capability that is missing or
-- at fault has no lines, and no clash depends on the length of any text.
pub record AreClashes (entry : Content) (rows cols : ℕ) (nos : List No) : Type 0 where
  pub kept : ℕ → Bool
  pub standing : IsStanding entry rows cols kept
  pub smacs : List No
  pub of_smacs : OfSwitch entry rows cols kept Smacs smacs
  pub rmacs : List No
  pub of_rmacs : OfSwitch entry rows cols kept Rmacs rmacs
  pub acsc : List No
  pub of_acsc : OfStrings entry rows cols kept entries.acsc BadLook
      (λ t. StaysGraphic (is_some (string_at entry entries.acsc)) t) acsc
  pub clear : List No
  pub of_clear : OfWay entry rows cols kept clear
  pub are : nos ≡ ((smacs ++ rmacs) ++ acsc) ++ clear

-- ---- (Serves the code alone.) The clashes by computed values, and the refusals that each adds.

-- one refusal about the row's capability if a charset is named, with a probe that has it and is a free start
-- (`IsFree`); otherwise none
abbrev pub IsSwitchTold : ℕ → ℕ → Row → Option Charset → List No → Type 0
IsSwitchTold rows cols row None own = own ≡ []
IsSwitchTold rows cols row (Some before) own =
    (refusal : No) × (p : Probe) × (own ≡ refusal ∷ []) × IsAbout refusal (cap_of row) (WrongEffect p)
    × (p.charset ≡ before) × IsFree rows cols (screen_of rows cols p)

-- one refusal about the capability with this cause if it is so, otherwise none
abbrev pub IsTold : Bool → ℕ → Cause → List No → Type 0
IsTold false cap cause own = own ≡ []
IsTold true cap cause own = (refusal : No) × (own ≡ refusal ∷ []) × IsAbout refusal cap cause

pub record AddsSwitch (rows cols : ℕ) (row : Row) (before : Option Charset) (old new : List No) : Type 0 where
  pub own : List No
  pub added : new ≡ old ++ own
  pub told : IsSwitchTold rows cols row before own

pub record AddsWhere (is_so : Bool) (cap : ℕ) (cause : Cause) (old new : List No) : Type 0 where
  pub own : List No
  pub added : new ≡ old ++ own
  pub told : IsTold is_so cap cause own

pub record AreTold (rows cols : ℕ) (leads : Bool) (all : AllClashes) (nos : List No) : Type 0 where
  pub smacs : List No
  pub of_smacs : IsSwitchTold rows cols Smacs all.smacs smacs
  pub rmacs : List No
  pub of_rmacs : IsSwitchTold rows cols Rmacs all.rmacs rmacs
  pub acsc : List No
  pub of_acsc : IsTold all.acsc entries.acsc BadLook acsc
  pub clear : List No
  pub of_clear : IsTold (leads && all.clear) (cap_of Clear) NoResync clear
  pub are : nos ≡ ((smacs ++ rmacs) ++ acsc) ++ clear
