-- The rows of an entry that stand: their strings are right, and their lines not too long.
use Rattle.std.specs.Prelude.{ℕ, ◌≡◌, ◌<◌, true, List, Some}
use Rattle.ti_caps.specs.Entry.{Content}
use Rattle.vt_effects.specs.declared.effects.Effect.{Effect}
use Rattle.ti_rows.specs.declared.rows.Looks.{Looks}
use Rattle.ti_rows.specs.declared.rows.Row.{Row}
use Rattle.ti_rows.specs.Lists.{IsInRange, rank}
use Rattle.ti_rows.specs.Looks.{learned}
use Rattle.ti_rows.specs.Names.{order}
use Rattle.ti_rows.specs.Right.{IsRight}
use Rattle.ti_conforms.specs.Sends.{Sends}
use Rattle.ti_conforms.specs.Entries.{is_checked, string_of}
use Rattle.ti_checker.specs.Limit.{IsLineFor, IsWritten, FitsLimit}
use Rattle.ti_checker.specs.Taught.{IsAskedOf, IsTaught}

-- ---- a row without fault

-- the string sends whole bytes whose run from every start of the row ends as wanted, with these looks of the attributes
pub record SendsRight (rows cols : ℕ) (looks : Looks) (string : List ℕ) (row : Row) : Type 0 where
  pub bytes : List ℕ
  pub sends : Sends string row bytes
  pub right : IsRight rows cols looks row bytes

-- the rows of the string before this one are right with these looks
abbrev pub StandBefore : ℕ → ℕ → Looks → List ℕ → Row → Type 0
StandBefore rows cols looks string row = (other : Row) → IsInRange rows cols other → order other ≡ order row
    → rank rows cols other < rank rows cols row → SendsRight rows cols looks string other

-- The string sends bytes with the effect that is asked for, with the looks that the rows before this one teach. So they
-- are whole, and their run from every start of the row ends as wanted.
pub record SendsAsked (rows cols : ℕ) (string : List ℕ) (row : Row) : Type 0 where
  pub bytes : List ℕ
  pub effect : Effect
  pub is : IsLineFor rows cols string (record { row = row; bytes = bytes; effect = effect })
  pub looks : Looks
  pub taught : IsTaught rows cols string row looks
  pub asked : IsAskedOf looks row effect
  pub right : IsRight rows cols (learned row effect looks) row bytes

-- if the row is checked and the entry has its string, the string sends what is asked for
abbrev pub RowStands : Content → ℕ → ℕ → Row → Type 0
RowStands entry rows cols row = is_checked entry row ≡ true → (string : List ℕ) → string_of entry row ≡ Some string
    → SendsAsked rows cols string row

-- each row of the capability at this place in the order of names stands
abbrev pub CapStands : Content → ℕ → ℕ → ℕ → Type 0
CapStands entry rows cols place =
    (row : Row) → IsInRange rows cols row → order row ≡ place → RowStands entry rows cols row

abbrev pub EachStands : Content → ℕ → ℕ → Type 0
EachStands entry rows cols = (row : Row) → IsInRange rows cols row → RowStands entry rows cols row

-- each row stands, and the lines of all are not too long for a certificate
pub record EachWritten (entry : Content) (rows cols : ℕ) : Type 0 where
  pub stands : EachStands entry rows cols
  pub within : FitsLimit entry rows cols

-- ---- (Serves the code alone.) The rows for which `Holds` holds stand, and their lines are the text so far.

pub record IsDrafted (entry : Content) (rows cols : ℕ) (Holds : Row → Type 0) (text : List ℕ) : Type 0 where
  pub stand : (row : Row) → IsInRange rows cols row → Holds row → RowStands entry rows cols row
  pub written : IsWritten entry rows cols Holds text
