-- The rounds in which strings at fault are left out of an entry.
use Rattle.std.specs.Prelude.{ℕ, ◌≡◌, ◌++◌, ◌&&◌, ◌||◌, not, Bool, true, false, All, Contains, List, [], None, is_some}
use Rattle.std.specs.List.{list_all, list_any}
use Rattle.ti_caps.specs.Entry.{Content, string_at}
use Rattle.ti_checker.specs.declared.causes.Cause.{Cause}
use Rattle.ti_checker.specs.declared.causes.Cause.TheVariants.{FlagOut, Absent, AcsByte, Parm, StaticRead, Unfinished}
use Rattle.ti_checker.specs.declared.causes.Cause.TheVariants.{Stuck, NotTame, BadLook, WrongEffect, NotShown, TooLong}
use Rattle.ti_checker.specs.declared.causes.Cause.TheVariants.{NoResync, NoMemory}
use Rattle.ti_checker.specs.declared.causes.No.{No}
use Rattle.ti_faults.specs.AllFaults.{AreFaults}
use Rattle.ti_without.specs.Less.{caps_of, goes_with, less, may_go}
use Rattle.ti_without.specs.declared.left_out.LeftOut.{LeftOut}

-- The way out of an unknown state depends on the other strings, so its fault waits until nothing else is at fault.
abbrev pub waits : Cause → Bool
waits NoResync = true
waits FlagOut = false
waits Absent = false
waits AcsByte = false
waits (Parm fault) = false
waits StaticRead = false
waits Unfinished = false
waits Stuck = false
waits NotTame = false
waits BadLook = false
waits (WrongEffect p) = false
waits NotShown = false
waits TooLong = false
waits NoMemory = false

abbrev pub counts : No → Bool
counts fault = not (waits fault.cause)

-- with these faults there is a round: some fault counts, and the string of each that counts can be left out
abbrev pub may_go_or_wait : Content → No → Bool
may_go_or_wait entry fault = waits fault.cause || may_go entry fault.cap

abbrev pub can_go_on : Content → List No → Bool
can_go_on entry nos = list_any counts nos && list_all (may_go_or_wait entry) nos

-- the entry has the string, and it is that of a listed fault which counts, or the other one of `smcup` and `rmcup`
pub record IsDue (entry : Content) (nos : List No) (l : LeftOut) : Type 0 where
  pub there : is_some (string_at entry l.cap) ≡ true
  pub fault : No
  pub listed : Contains nos fault
  pub counts : counts fault ≡ true
  pub cap_is : l.at_fault ≡ fault.cap
  pub cause_is : l.cause ≡ fault.cause
  pub goes : goes_with fault.cap l.cap ≡ true

-- the capability of a listed fault which counts, or the other one of `smcup` and `rmcup`
pub record IsWanted (nos : List No) (cap : ℕ) : Type 0 where
  pub fault : No
  pub listed : Contains nos fault
  pub counts : counts fault ≡ true
  pub goes : goes_with fault.cap cap ≡ true

-- One round: the entry has exactly these faults, and can do without the string of each that counts. All of them are
-- left out, with the other one of `smcup` and `rmcup`, and nothing else.
pub record IsRound (entry : Content) (rows cols : ℕ) (gone : List LeftOut) : Type 0 where
  pub nos : List No
  pub faults : AreFaults entry rows cols nos
  pub can : can_go_on entry nos ≡ true
  pub due : All (IsDue entry nos) gone
  pub all : (cap : ℕ) → IsWanted nos cap → string_at (less entry (caps_of gone)) cap ≡ None

-- the rounds so far, and what they left out, each of the entry as the earlier ones made it
pub data AreRounds (entry : Content) (rows cols : ℕ) : List LeftOut → Type 0 where
  NoRound : (left : List LeftOut) → left ≡ [] → AreRounds entry rows cols left
  OneMore : (before gone left : List LeftOut) → left ≡ before ++ gone → AreRounds entry rows cols before
      → IsRound (less entry (caps_of before)) rows cols gone → AreRounds entry rows cols left
