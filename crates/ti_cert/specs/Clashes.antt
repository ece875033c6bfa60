-- The clashes of a table's lines: all that may be wrong with them together, though each is right. They are about the
-- character sets that lines leave, and about the bytes that lead a terminal out of an unknown state (terminfo(5),
-- "Initialization" and "Line Graphics").
use Rattle.std.specs.Prelude.{ℕ, ◌≡◌, ◌&&◌, Bool, true, false, List, ◌∷◌, Option, Some, None}
use Rattle.vt_term.specs.Screen.{Charset, is_graphic}
use Rattle.ti_conforms.specs.Charsets.{IsAmong}
use Rattle.ti_rows.specs.declared.rows.Row.{Row}
use Rattle.ti_rows.specs.declared.rows.Row.TheVariants.{Smacs, Rmacs}
use Rattle.ti_conforms.specs.Table.{Table, resync, Activates}
use Rattle.ti_conforms.specs.Sets.{CanHave, LeadsBy, CanSettle, has_sets}
use Rattle.ti_lines.specs.declared.row_lines.RowLine.{RowLine}
use Rattle.ti_cert.specs.Order.{GivesBytes}
use Rattle.ti_cert.specs.declared.clashes.AllClashes.{AllClashes}
use Rattle.ti_cert.specs.declared.clashes.Clash.{Clash}
use Rattle.ti_cert.specs.declared.clashes.Clash.TheVariants as clashes
use Rattle.ti_cert.specs.declared.faults.CertFaultKind.{CertFaultKind}
use Rattle.ti_cert.specs.declared.faults.CertFaultKind.TheVariants.{NotShown, NoResync, BadLook}

-- the row's line, of `smacs` or `rmacs`, leads from a settled charset to one in which the wrong set is active
pub record Misswitches (t : Table) (row : Row) (before : Charset) : Type 0 where
  pub settles : CanSettle t before
  pub bytes : List ℕ
  pub there : t.line_of row ≡ Some bytes
  pub after : Charset
  pub leads : LeadsBy bytes before after
  pub inactive : Activates row after → ⊥

-- the row's line leads from no settled charset to the wrong set
abbrev pub SwitchesRight : Table → Row → Type 0
SwitchesRight t row = (before : Charset) → Misswitches t row before → ⊥

-- the graphic set can stay active although letters of line graphics can't be sent: there are no pairs for them, or not
-- both strings that switch sets
pub record StaysGraphic (pairs : Bool) (t : Table) : Type 0 where
  pub unsent : (pairs && has_sets t) ≡ false
  pub charset : Charset
  pub settles : CanSettle t charset
  pub graphic : is_graphic charset ≡ true

-- the bytes that lead out of an unknown state don't begin with ESC
abbrev pub BeginsOpen : Table → Type 0
BeginsOpen t = (rest : List ℕ) → resync t ≡ 27 ∷ rest → ⊥

-- the bytes that lead out of an unknown state leave the plain set active, from each charset that a terminal can have
abbrev pub ResyncsPlain : Table → Type 0
ResyncsPlain t = (c d : Charset) → CanHave t c → LeadsBy (resync t) c d → is_graphic d ≡ false

-- the lines have this clash, and none of those before it in this order
abbrev pub IsClash : Bool → Table → Clash → Type 0
IsClash pairs t (clashes.Smacs before) = Misswitches t Smacs before
IsClash pairs t (clashes.Rmacs before) = SwitchesRight t Smacs × Misswitches t Rmacs before
IsClash pairs t clashes.Acsc = SwitchesRight t Smacs × SwitchesRight t Rmacs × StaysGraphic pairs t
IsClash pairs t clashes.Clear =
    SwitchesRight t Smacs × SwitchesRight t Rmacs × (StaysGraphic pairs t → ⊥) × BeginsOpen t

-- the row's line goes wrong from the charset that is named; if none is named, it goes wrong from no settled charset
abbrev pub OfSwitch : Table → Row → Option Charset → Type 0
OfSwitch t row None = SwitchesRight t row
OfSwitch t row (Some before) = Misswitches t row before

-- all clashes of the lines, each of the four by itself
pub record AreClashes (pairs : Bool) (t : Table) (all : AllClashes) : Type 0 where
  pub of_smacs : OfSwitch t Smacs all.smacs
  pub of_rmacs : OfSwitch t Rmacs all.rmacs
  pub graphic : all.acsc ≡ true → StaysGraphic pairs t
  pub plain : all.acsc ≡ false → StaysGraphic pairs t → ⊥
  pub opens : all.clear ≡ true → BeginsOpen t
  pub escapes : all.clear ≡ false → BeginsOpen t → ⊥

-- the first of all clashes, if there is one
abbrev pub first_by : Option Charset → Option Charset → Bool → Bool → Option Clash
first_by (Some before) rmacs acsc clear = Some (clashes.Smacs before)
first_by None (Some before) acsc clear = Some (clashes.Rmacs before)
first_by None None true clear = Some clashes.Acsc
first_by None None false true = Some clashes.Clear
first_by None None false false = None

abbrev pub first_of : AllClashes → Option Clash
first_of all = first_by all.smacs all.rmacs all.acsc all.clear

-- the lines have none of the four clashes; then the bytes that lead out of an unknown state leave the plain set active
-- too
pub record GoesTogether (pairs : Bool) (t : Table) : Type 0 where
  pub graphic : SwitchesRight t Smacs
  pub plain : SwitchesRight t Rmacs
  pub settles : StaysGraphic pairs t → ⊥
  pub escapes : BeginsOpen t → ⊥
  pub quiet : ResyncsPlain t

-- the fault of a certificate whose lines have the clash
abbrev pub kind_of : Clash → CertFaultKind
kind_of (clashes.Smacs before) = NotShown
kind_of (clashes.Rmacs before) = NotShown
kind_of clashes.Acsc = BadLook
kind_of clashes.Clear = NoResync

-- `Is` holds of a table that has exactly the strings of these lines
pub record OfLines (rows cols : ℕ) (lines : List RowLine) (Is : Table → Type 0) : Type 0 where
  pub table : Table
  pub rows_are : table.rows ≡ rows
  pub cols_are : table.cols ≡ cols
  pub found : (row : Row) (bytes : List ℕ) → table.line_of row ≡ Some bytes → GivesBytes lines row bytes
  pub kept : (line : RowLine) → IsAmong lines line → table.line_of line.row ≡ Some line.bytes
  pub is : Is table
