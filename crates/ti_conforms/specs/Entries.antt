-- Which capabilities of an entry are checked, and when lines are just those that it sends.
use Rattle.std.specs.Prelude.{ℕ, ◌≡◌, ◌&&◌, Bool, true, false, not, List, Option, None, Some, is_some}
use Rattle.vt_term.specs.Color.{Black}
use Rattle.ti_caps.specs.Entry.{Content, string_at}
use Rattle.ti_rows.specs.declared.rows.Row.{Row}
use Rattle.ti_rows.specs.declared.rows.Row.TheVariants.{Sgr, Setaf, Setab, Op, Smul, Rev, Blink, Dim, Bold, Invis, Smso}
use Rattle.ti_rows.specs.declared.rows.Row.TheVariants.{Smacs, Rmacs}
use Rattle.ti_rows.specs.Names.{order, cap_of, no_attributes}
use Rattle.ti_rows.specs.Lists.{IsFirst, IsInRange}
use Rattle.ti_conforms.specs.Agreement.{LineSends, SomeLine}
use Rattle.ti_conforms.specs.declared.agreement.Disagreement.{Disagreement}
use Rattle.ti_conforms.specs.declared.agreement.Disagreement.TheVariants.{Disagree, Unwanted, NoMemory}
use Rattle.ti_conforms.specs.declared.entries.Group.{Group}
use Rattle.ti_conforms.specs.declared.entries.Group.TheVariants.{Colors, Single, Sets, Alone}

-- the group of capabilities with which a capability is checked
abbrev pub group_of : Row → Group
group_of (Setaf c) = Colors
group_of (Setab c) = Colors
group_of Op = Colors
group_of Smul = Single
group_of Rev = Single
group_of Blink = Single
group_of Dim = Single
group_of Bold = Single
group_of Invis = Single
group_of Smso = Single
group_of Smacs = Sets
group_of Rmacs = Sets
group_of _ = Alone

-- the string that the entry has for a row
abbrev pub string_of : Content → Row → Option (List ℕ)
string_of entry row = string_at entry (cap_of row)

abbrev pub has_string : Content → Row → Bool
has_string entry row = is_some (string_of entry row)

-- the place of `acsc` in the table of capabilities
abbrev pub acsc : ℕ
acsc = 229

-- Colors are checked if the entry can set both and take them back, single attributes if it has no `sgr`, and the
-- strings of the alternate set if `acsc` lists its characters.
abbrev pub meets : Content → Group → Bool
meets entry Colors = has_string entry (Setaf Black) && (has_string entry (Setab Black) && has_string entry Op)
meets entry Single = not (has_string entry (Sgr no_attributes))
meets entry Sets = has_string entry Smacs && (has_string entry Rmacs && is_some (string_at entry acsc))
meets entry Alone = true

-- the entry has the capability, and it is checked
abbrev pub is_checked : Content → Row → Bool
is_checked entry row = has_string entry row && meets entry (group_of row)

-- the entry's string for the row sends the line's bytes
pub record EntrySends (entry : Content) (line : Option (List ℕ)) (row : Row) : Type 0 where
  pub string : List ℕ
  pub there : string_of entry row ≡ Some string
  pub sends : LineSends string line row

-- the line of a checked row is just what the entry sends, and any other row has none
pub record LineAgrees (entry : Content) (line : Option (List ℕ)) (row : Row) : Type 0 where
  pub checked : is_checked entry row ≡ true → EntrySends entry line row
  pub unchecked : is_checked entry row ≡ false → line ≡ None

-- the lines agree for each parameter list of the capability at the place `n`
abbrev pub CapAgrees : ℕ → ℕ → Content → (Row → Option (List ℕ)) → ℕ → Type 0
CapAgrees rows cols entry line_of n =
    (row : Row) → order row ≡ n → IsInRange rows cols row → LineAgrees entry (line_of row) row

-- the lines agree for every row
abbrev pub EntryAgrees : ℕ → ℕ → Content → (Row → Option (List ℕ)) → Type 0
EntryAgrees rows cols entry line_of = (row : Row) → IsInRange rows cols row → LineAgrees entry (line_of row) row

-- a row for which the lines don't agree, or memory ran out
abbrev pub IsNotAgreed : ℕ → ℕ → Content → (Row → Option (List ℕ)) → Disagreement → Type 0
IsNotAgreed rows cols entry line_of (Disagree row) =
    IsInRange rows cols row × (is_checked entry row ≡ true) × (EntrySends entry (line_of row) row → ⊥)
IsNotAgreed rows cols entry line_of (Unwanted row) =
    IsFirst rows cols row × (is_checked entry row ≡ false) × SomeLine line_of (order row)
IsNotAgreed rows cols entry line_of NoMemory = Unit {0}
