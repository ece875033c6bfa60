-- Why an entry can have no certificate, whatever its strings send (terminfo(5), "Predefined Capabilities"): a
-- required capability is missing, or a forbidden one is there.
use Rattle.std.specs.Prelude.{ℕ, ◌≡◌, ◌==◌, ◌&&◌, ◌||◌, not, if◌then◌else◌, Bool, true, false, List, Option, Some, None}
use Rattle.std.specs.Prelude.{is_some}
use Rattle.ti_caps.specs.Entry.{Content, flag_at, number_at, string_at}
use Rattle.ti_conforms.specs.Alternates.{is_misfit}
use Rattle.ti_rows.specs.declared.rows.Row.{Row}
use Rattle.ti_rows.specs.declared.rows.Row.TheVariants.{Clear, Cup, Sgr0}
use Rattle.ti_rows.specs.Names.{cap_of}
use Rattle.ti_conforms.specs.Entries.{acsc, has_string}
use Rattle.ti_conforms.specs.Conforms.{xmc, hc, gn, os}
use Rattle.ti_conforms.specs.declared.fitness.Unfit.{Unfit}
use Rattle.ti_conforms.specs.declared.fitness.Unfit.TheVariants.{FlagOut, Absent, AcsByte}

-- a number or flag that the entry has: attributes that take room on the screen, paper, a generic type, cells that keep
-- what was printed before
abbrev pub is_flag_out : Content → ℕ → Bool
is_flag_out entry cap =
    ((cap == xmc) && is_some (number_at entry cap))
    || (((cap == hc) || ((cap == gn) || (cap == os))) && flag_at entry cap)

abbrev pub IsRequired : Row → Type 0
IsRequired Clear = Unit {0}
IsRequired (Cup row col) = Unit {0}
IsRequired Sgr0 = Unit {0}
IsRequired _ = ⊥

-- a required string that the entry lacks
pub record IsLacking (entry : Content) (row : Row) : Type 0 where
  pub required : IsRequired row
  pub absent : has_string entry row ≡ false

pub record LacksCap (entry : Content) (cap : ℕ) : Type 0 where
  pub row : Row
  pub lacking : IsLacking entry row
  pub named : cap ≡ cap_of row

-- `acsc` lists a letter of line graphics with a partner that can't be printed
pub record HasMisfit (entry : Content) : Type 0 where
  pub pairs : List ℕ
  pub there : string_at entry acsc ≡ Some pairs
  pub letter : ℕ
  pub misfit : is_misfit pairs letter ≡ true

-- the capability that is the reason
pub data IsUnfitBy (entry : Content) (cap : ℕ) : Type 0 where
  Flagged : is_flag_out entry cap ≡ true → IsUnfitBy entry cap
  Lacks : LacksCap entry cap → IsUnfitBy entry cap
  Unprinted : cap ≡ acsc → HasMisfit entry → IsUnfitBy entry cap

-- ---- the order of reasons: `xmc`, `hc`, `gn`, `os`, then `clear`, `cup`, `sgr0`, then `acsc`

abbrev pub first_flag_out : Content → Option ℕ
first_flag_out entry =
    if is_some (number_at entry xmc) then Some xmc
    else (if flag_at entry hc then Some hc
    else (if flag_at entry gn then Some gn
    else (if flag_at entry os then Some os else None)))

abbrev pub first_absent : Content → Option Row
first_absent entry =
    if not (has_string entry Clear) then Some Clear
    else (if not (has_string entry (Cup 0 0)) then Some (Cup 0 0)
    else (if not (has_string entry Sgr0) then Some Sgr0 else None))

pub record HasNoFlagOut (entry : Content) : Type 0 where
  pub no_cookies : number_at entry xmc ≡ None
  pub no_paper : flag_at entry hc ≡ false
  pub no_generic : flag_at entry gn ≡ false
  pub no_overstrike : flag_at entry os ≡ false

pub record HasRequired (entry : Content) : Type 0 where
  pub flags : HasNoFlagOut entry
  pub clear : has_string entry Clear ≡ true
  pub cup : has_string entry (Cup 0 0) ≡ true
  pub sgr0 : has_string entry Sgr0 ≡ true

-- the row's string is the first required one that the entry lacks, and no flag rules the entry out
pub record LacksFirst (entry : Content) (row : Row) : Type 0 where
  pub lacking : IsLacking entry row
  pub first : first_absent entry ≡ Some row
  pub flags : HasNoFlagOut entry

-- the first reason
abbrev pub IsUnfit : Content → Unfit → Type 0
IsUnfit entry (FlagOut cap) = (first_flag_out entry ≡ Some cap) × (is_flag_out entry cap ≡ true)
IsUnfit entry (Absent row) = LacksFirst entry row
IsUnfit entry AcsByte = HasRequired entry × HasMisfit entry

-- the capability that a reason is about
abbrev pub cap_of_unfit : Unfit → ℕ
cap_of_unfit (FlagOut cap) = cap
cap_of_unfit (Absent row) = cap_of row
cap_of_unfit AcsByte = acsc
