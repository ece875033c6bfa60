-- With `NotTame` and `NotShown` a string may be right. But neither is true of a row that stands, and `NotShown` isn't
-- true of a row that leads to a place, a rendition, modes or cells that aren't wanted.
use Rattle.std.specs.Prelude.{ℕ, ◌≡◌, List}
use Rattle.vt_effects.specs.declared.effects.Effect.{Effect}
use Rattle.ti_rows.specs.declared.rows.Looks.{Looks}
use Rattle.ti_rows.specs.declared.rows.Row.{Row}
use Rattle.ti_checker.specs.First.{SendsAsked}
use Rattle.ti_checker.specs.Limit.{IsLineFor}
use Rattle.ti_checker.specs.No.{IsFaulty}
use Rattle.ti_checker.specs.Strays.{LeadsElsewhere, LeavesOtherCells, LeavesOtherModes, RendersOther}
use Rattle.ti_checker.specs.Taught.{IsTaught}
use Rattle.ti_checker.specs.declared.causes.Cause.TheVariants.{NotTame, NotShown}

-- the rows of a string before this one teach one look of the attributes only
abbrev pub OneTeaching : Type 0
OneTeaching = (rows cols : ℕ) (string : List ℕ) (row : Row) (looks others : Looks)
    → IsTaught rows cols string row looks → IsTaught rows cols string row others → others ≡ looks

abbrev pub NeverUntamed : Type 0
NeverUntamed = (rows cols : ℕ) (string : List ℕ) (row : Row) → SendsAsked rows cols string row
    → IsFaulty rows cols string row NotTame → ⊥

abbrev pub NeverUnasked : Type 0
NeverUnasked = (rows cols : ℕ) (string : List ℕ) (row : Row) → SendsAsked rows cols string row
    → IsFaulty rows cols string row NotShown → ⊥

-- the bytes that the string sends have an effect for which `Such` holds with the looks that the string's rows before
-- this one teach
pub record SendsSuch (Such : Looks → Effect → Type 0) (rows cols : ℕ) (string : List ℕ) (row : Row) : Type 0 where
  pub bytes : List ℕ
  pub effect : Effect
  pub is : IsLineFor rows cols string (record { row = row; bytes = bytes; effect = effect })
  pub looks : Looks
  pub taught : IsTaught rows cols string row looks
  pub such : Such looks effect

-- `NotShown` isn't true of a row that sends bytes with such an effect
abbrev pub NeverSuch : (ℕ → ℕ → Looks → Row → Effect → Type 0) → Type 0
NeverSuch Such = (rows cols : ℕ) (string : List ℕ) (row : Row)
    → SendsSuch (λ looks e. Such rows cols looks row e) rows cols string row
    → IsFaulty rows cols string row NotShown → ⊥

abbrev pub NeverElsewhere : Type 0
NeverElsewhere = NeverSuch LeadsElsewhere

abbrev pub NeverOther : Type 0
NeverOther = NeverSuch RendersOther

abbrev pub NeverOtherCells : Type 0
NeverOtherCells = NeverSuch LeavesOtherCells

abbrev pub NeverOtherModes : Type 0
NeverOtherModes = NeverSuch LeavesOtherModes
