-- The string that would be right in place of one at fault, and what is known of a fault.
use Rattle.std.specs.Prelude.{◌≡◌, ◌==◌, ◌&&◌, ◌++◌, ℕ, Bool, true, false, not, List, [], ◌∷◌, Option, Some, None}
use Rattle.std.specs.Prelude.{codes, filter, if◌then◌else◌}
use Rattle.ti_caps.specs.Entry.{Content}
use Rattle.ti_caps.specs.Table.{name_at}
use Rattle.ti_checker.specs.declared.causes.Cause.{Cause}
use Rattle.ti_checker.specs.declared.causes.Cause.TheVariants as causes
use Rattle.ti_checker.specs.declared.causes.No.{No}
use Rattle.ti_faults.specs.Mended.{IsBestMended}
use Rattle.ti_faults.specs.Remedies.{IsSuggestion, is_of_another_kind, is_switching, switching}
use Rattle.ti_faults.specs.declared.mended.Mended.{Mended}
use Rattle.ti_reports.specs.Spellings.{IsSpelling}
use Rattle.ti_reports.specs.Texts.{IsShownAs}
use Rattle.ti_reports.specs.declared.written.Written.{Written}
use Rattle.ti_source.specs.Prints.{string_text}

-- The entry in which all its faults are mended at once; none if only the first one is reported, or if they show a
-- terminal of another kind.
abbrev pub IsMendedBy : Bool → Content → ℕ → ℕ → List No → Option Mended → Type 0
IsMendedBy true entry height width nos (Some mended) = IsBestMended entry height width nos mended
IsMendedBy true entry height width nos None = ⊥
IsMendedBy false entry height width nos mended = mended ≡ None

abbrev pub IsMendedFor : Bool → Content → ℕ → ℕ → List No → Option Mended → Type 0
IsMendedFor all entry height width nos mended =
    IsMendedBy (all && not (is_of_another_kind nos)) entry height width nos mended

-- the string that is right for a capability in the mended entry, if there is one
abbrev pub IsRightFor : Content → Option Mended → ℕ → Option (List ℕ) → Type 0
IsRightFor entry (Some mended) cap found = IsSuggestion entry mended cap found
IsRightFor entry None cap found = found ≡ None

-- this string in both forms, if there is one
pub record IsSuggested (entry : Content) (mended : Option Mended) (cap : ℕ) (written : Option Written) : Type 0 where
  pub found : Option (List ℕ)
  pub right : IsRightFor entry mended cap found
  pub forms : IsSpelling found written

-- the capabilities whose strings are mended as one with that of this capability: those that switch sets
abbrev pub mended_with : ℕ → List ℕ
mended_with cap = if is_switching cap then filter (λ other. not (other == cap)) switching else []

-- the field of a source text that gives a capability this string
pub record IsField (cap : ℕ) (string field : List ℕ) : Type 0 where
  pub name : List ℕ
  pub named : IsShownAs (name_at cap) name
  pub says : field ≡ name ++ (codes "=" ++ string_text string)

abbrev pub IsFieldIf : ℕ → Option (List ℕ) → List (List ℕ) → Type 0
IsFieldIf cap (Some string) fields = (field : List ℕ) × IsField cap string field × (fields ≡ field ∷ [])
IsFieldIf cap None fields = fields ≡ []

-- the fields of those of these capabilities for which there is a string that is right, in their order
unfoldable pub AreFields : Content → Option Mended → List ℕ → List (List ℕ) → Type 0
AreFields entry mended [] fields = fields ≡ []
AreFields entry mended (cap ∷ caps) fields =
    (found : Option (List ℕ)) × (own : List (List ℕ)) × (later : List (List ℕ)) × (fields ≡ own ++ later)
    × IsRightFor entry mended cap found × IsFieldIf cap found own × AreFields entry mended caps later

-- for private clauses: the fields, and after them that of the capability, if there is a string that is right for it
unfoldable pub AddsField : ℕ → Option (List ℕ) → List (List ℕ) → List (List ℕ) → Type 0
AddsField cap found before after = (own : List (List ℕ)) × IsFieldIf cap found own × (after ≡ before ++ own)

-- whether the faults show a terminal of another kind, if all of them are reported
abbrev pub other_kind : Bool → List No → Option Bool
other_kind true nos = Some (is_of_another_kind nos)
other_kind false nos = None

-- whether the cause shows that something goes wrong; with the others the string may be right
abbrev pub is_judged : Cause → Bool
is_judged causes.FlagOut = true
is_judged causes.Absent = true
is_judged causes.AcsByte = true
is_judged (causes.Parm fault) = true
is_judged causes.StaticRead = true
is_judged causes.Unfinished = true
is_judged causes.Stuck = true
is_judged causes.NotTame = false
is_judged causes.BadLook = true
is_judged (causes.WrongEffect probe) = true
is_judged causes.NotShown = false
is_judged causes.TooLong = false
is_judged causes.NoResync = true
is_judged causes.NoMemory = false
