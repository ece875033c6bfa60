-- The certificate of an entry without the strings that are at fault.
use Rattle.std.specs.Prelude.{ℕ, ◌≡◌, ◌≢◌, ◌⊎◌, false, All, Contains, List, []}
use Rattle.ti_caps.specs.Entry.{Content, string_at}
use Rattle.ti_cert.specs.Table.{CheckedTable, table_of}
use Rattle.ti_cert.specs.Verified.{Resyncs}
use Rattle.ti_checker.specs.No.{IsNo}
use Rattle.ti_checker.specs.Owned.{IsOwnTable}
use Rattle.ti_checker.specs.declared.causes.Cause.TheVariants.{NoMemory}
use Rattle.ti_checker.specs.declared.causes.No.{No}
use Rattle.ti_conforms.specs.Conforms.{Conforms}
use Rattle.ti_conforms.specs.Entries.{EntryAgrees, acsc}
use Rattle.ti_faults.specs.AllFaults.{AreFaults}
use Rattle.ti_without.specs.Less.{but, caps_of, less}
use Rattle.ti_without.specs.Rounds.{AreRounds, can_go_on}
use Rattle.ti_without.specs.declared.left_out.LeftOut.{LeftOut}
use Rattle.ti_without.specs.declared.without.Without.{Without}

-- the table of the entry's own certificate, with all that `certify` promises of it
pub record IsCertified (entry : Content) (rows cols : ℕ) (checked : CheckedTable) : Type 0 where
  pub own : IsOwnTable entry rows cols checked
  pub conforms : Conforms entry rows cols
  pub rows_are : checked.known.strings.rows ≡ rows
  pub cols_are : checked.known.strings.cols ≡ cols
  pub sends : EntryAgrees rows cols entry (table_of checked).line_of
  pub partners : checked.acsc ≡ string_at entry acsc
  pub resyncs : Resyncs (table_of checked)

-- `check` refuses the entry, and not for want of memory
pub record IsRefused (entry : Content) (rows cols : ℕ) : Type 0 where
  pub refusal : No
  pub refused : IsNo entry rows cols refusal
  pub claims : refusal.cause ≢ NoMemory

-- the entry is refused if this one comes back, with those that belong to it
abbrev pub IsNeeded : Content → ℕ → ℕ → List LeftOut → LeftOut → Type 0
IsNeeded entry rows cols left l = IsRefused (less entry (caps_of (but l.cap left))) rows cols

-- the strings of the entry without those left out; each of these was left out in a round
pub record IsFound (entry : Content) (rows cols : ℕ) (w : Without) : Type 0 where
  pub certified : IsCertified (less entry (caps_of w.left_out.items)) rows cols w.checked
  pub rounds : List LeftOut
  pub are_rounds : AreRounds entry rows cols rounds
  pub left : All (Contains rounds) w.left_out.items

-- something is left out only of an entry that is refused as a whole
abbrev pub IsWhole : Content → ℕ → ℕ → List LeftOut → Type 0
IsWhole entry rows cols left = (left ≡ []) ⊎ IsRefused entry rows cols

-- there can't be a further round: memory ran out, or a fault of the entry can't be left out
pub data IsLast (entry : Content) (rows cols : ℕ) (refusal : No) : Type 0 where
  OutOfMemory : refusal.cause ≡ NoMemory → IsLast entry rows cols refusal
  CantGoOn : (nos : List No) → AreFaults entry rows cols nos → can_go_on entry nos ≡ false
      → IsLast entry rows cols refusal

-- a refusal of the entry that ends the rounds
pub record IsStop (entry : Content) (rows cols : ℕ) (refusal : No) : Type 0 where
  pub refused : IsNo entry rows cols refusal
  pub last : IsLast entry rows cols refusal

-- the refusal of the entry as the rounds left it, of which there can't be a further one
pub record IsEnd (entry : Content) (rows cols : ℕ) (refusal : No) : Type 0 where
  pub left : List LeftOut
  pub rounds : AreRounds entry rows cols left
  pub stop : IsStop (less entry (caps_of left)) rows cols refusal

-- no round leads to a certificate, and memory didn't run out
pub record IsClosed (entry : Content) (rows cols : ℕ) : Type 0 where
  pub refusal : No
  pub end : IsEnd entry rows cols refusal
  pub claims : refusal.cause ≢ NoMemory
