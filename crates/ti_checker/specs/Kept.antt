-- The table of the lines of some capabilities of an entry, those that are kept: in it strings can be judged together
-- although others are at fault.
use Rattle.std.specs.Prelude.{ℕ, ◌+◌, ◌≡◌, ◌==◌, ◌&&◌, not, Bool, true, false, List, Option, None, Some}
use Rattle.std.specs.List.{list_any}
use Rattle.vt_term.specs.Size.{IsSize}
use Rattle.ti_caps.specs.Entry.{Content}
use Rattle.ti_rows.specs.declared.rows.Row.{Row}
use Rattle.ti_rows.specs.Lists.{IsInRange}
use Rattle.ti_rows.specs.Names.{order, string_in_order}
use Rattle.ti_conforms.specs.Entries.{is_checked, EntrySends}
use Rattle.ti_conforms.specs.Table.{Table}
use Rattle.ti_checker.specs.First.{CapStands, RowStands}
use Rattle.ti_checker.specs.declared.causes.No.{No}

-- ---- which capabilities are kept, by their place in the order of names

abbrev pub every : ℕ → Bool
every place = true

-- one of the refusals is about the capability
abbrev pub names : List No → ℕ → Bool
names refusals cap = list_any (λ refusal. refusal.cap == cap) refusals

-- the capabilities that no refusal names
abbrev pub unnamed : List No → ℕ → Bool
unnamed refusals place = not (names refusals (83 + string_in_order place))

-- each row of a kept capability stands
abbrev pub KeptStand : Content → ℕ → ℕ → (ℕ → Bool) → Type 0
KeptStand entry rows cols kept =
    (row : Row) → IsInRange rows cols row → kept (order row) ≡ true → RowStands entry rows cols row

-- a capability is kept exactly if each of its rows stands
pub record IsStanding (entry : Content) (rows cols : ℕ) (kept : ℕ → Bool) : Type 0 where
  pub stand : KeptStand entry rows cols kept
  pub fail : (row : Row) → kept (order row) ≡ false → CapStands entry rows cols (order row) → ⊥

-- ---- their lines

-- the row is checked, and its capability is kept
abbrev pub is_sent : Content → (ℕ → Bool) → Row → Bool
is_sent entry kept row = kept (order row) && is_checked entry row

-- the line of a checked row of a kept capability is just what the entry sends, and any other row has none
pub record IsLineKept (entry : Content) (kept : ℕ → Bool) (line : Option (List ℕ)) (row : Row) : Type 0 where
  pub sent : is_sent entry kept row ≡ true → EntrySends entry line row
  pub unsent : is_sent entry kept row ≡ false → line ≡ None

-- the table has exactly what the entry sends for the checked rows of the kept capabilities
pub record HasKept (entry : Content) (rows cols : ℕ) (kept : ℕ → Bool) (t : Table) : Type 0 where
  pub size : IsSize rows cols
  pub rows_are : t.rows ≡ rows
  pub sends : (row : Row) → IsInRange rows cols row → IsLineKept entry kept (t.line_of row) row
  pub only : (row : Row) (bytes : List ℕ) → t.line_of row ≡ Some bytes → IsInRange rows cols row

-- `Is` holds of some table with exactly these lines
pub record OfKept (entry : Content) (rows cols : ℕ) (kept : ℕ → Bool) (Is : Table → Type 0) : Type 0 where
  pub table : Table
  pub has : HasKept entry rows cols kept table
  pub is : Is table

-- `Is` holds of each table with exactly these lines
abbrev pub OfAllKept : Content → ℕ → ℕ → (ℕ → Bool) → (Table → Type 0) → Type 0
OfAllKept entry rows cols kept Is = (t : Table) → HasKept entry rows cols kept t → Is t
