-- The findings about an entry: all its faults, and how much each counts.
use Rattle.std.specs.Prelude.{ℕ, ◌≡◌, ◌==◌, Bool, true, false, List, [], if◌then◌else◌, length}
use Rattle.std.specs.List.{AllZip}
use Rattle.ti_caps.specs.Entry.{Content}
use Rattle.ti_checker.specs.declared.causes.Cause.{Cause}
use Rattle.ti_checker.specs.declared.causes.Cause.TheVariants as causes
use Rattle.ti_checker.specs.declared.causes.No.{No}
use Rattle.ti_faults.specs.AllFaults.{AreAllFaults}
use Rattle.ti_steps.specs.declared.advice.Finding.{Finding}
use Rattle.ti_steps.specs.declared.advice.Weight.{Weight}
use Rattle.ti_steps.specs.declared.advice.Weight.TheVariants as weights
use Rattle.ti_grades.specs.Grades.{IsGrade}
use Rattle.ti_grades.specs.declared.grades.Grade.{Grade}
use Rattle.ti_grades.specs.declared.grades.Grade.TheVariants as grades
use Rattle.ti_parm.specs.declared.fault.ParmFault.{ParmFault}
use Rattle.ti_parm.specs.declared.fault.ParmFault.TheVariants as codes
use Rattle.ti_repairs.specs.declared.weights.Terms.{Terms}
use Rattle.ti_surveys.specs.Kinds.{listed_kind}
use Rattle.ti_surveys.specs.declared.kinds.EntryKind.{EntryKind}
use Rattle.ti_surveys.specs.declared.kinds.EntryKind.TheVariants.{Other, Part, Usual}

-- the terms of a size, with `--standard` or without it
pub record AreTerms (rows cols : ℕ) (standard : Bool) (terms : Terms) : Type 0 where
  pub rows_are : terms.size.rows ≡ rows
  pub cols_are : terms.size.cols ≡ cols
  pub standard_is : terms.is_standard ≡ standard

-- a number for each fault of codes, and for each cause of a fault
abbrev pub code_number : ParmFault → ℕ
code_number codes.Underflow = 20
code_number codes.BadNest = 21
code_number codes.BadCode = 22
code_number codes.Overflow = 23
code_number codes.BadChar = 24
code_number codes.WrongKind = 25
code_number codes.NoMemory = 26

abbrev pub cause_number : Cause → ℕ
cause_number causes.FlagOut = 1
cause_number causes.Absent = 2
cause_number causes.AcsByte = 3
cause_number (causes.Parm fault) = code_number fault
cause_number causes.StaticRead = 4
cause_number causes.Unfinished = 5
cause_number causes.Stuck = 6
cause_number causes.NotTame = 7
cause_number causes.BadLook = 8
cause_number (causes.WrongEffect probe) = 9
cause_number causes.NotShown = 10
cause_number causes.TooLong = 11
cause_number causes.NoResync = 12
cause_number causes.NoMemory = 13

-- the cause of a fault that an entry may have for what it lacks
abbrev pub is_lack : Cause → Bool
is_lack causes.Absent = true
is_lack causes.NoResync = true
is_lack causes.FlagOut = false
is_lack causes.AcsByte = false
is_lack (causes.Parm fault) = false
is_lack causes.StaticRead = false
is_lack causes.Unfinished = false
is_lack causes.Stuck = false
is_lack causes.NotTame = false
is_lack causes.BadLook = false
is_lack (causes.WrongEffect probe) = false
is_lack causes.NotShown = false
is_lack causes.TooLong = false
is_lack causes.NoMemory = false

-- A fault that counts for nothing: that of an entry for a terminal of another kind, or what one that is only there to
-- be used lacks.
abbrev pub is_lent : EntryKind → Cause → Bool
is_lent Other cause = true
is_lent Part cause = is_lack cause
is_lent Usual cause = false

-- how much a fault of a grade counts; with `--standard` what T can't tell counts as what it shows
abbrev pub graded : Grade → Bool → Weight
graded grades.Broken standard = weights.Certain
graded grades.Contradicts standard = weights.Certain
graded grades.Wrong standard = weights.Shown
graded grades.Unknown standard = if standard then weights.Shown else weights.Doubtful

-- how much a fault of an entry counts
pub record IsGraded (terms : Terms) (entry : Content) (alone : Bool) (no : No) (weight : Weight) : Type 0 where
  pub grade : Grade
  pub has : IsGrade entry terms.size.rows terms.size.cols no alone grade
  pub is : weight ≡ graded grade terms.is_standard

abbrev pub WeighsBy : Bool → Terms → Content → Bool → No → Weight → Type 0
WeighsBy true terms entry alone fault weight = weight ≡ weights.Lent
WeighsBy false terms entry alone fault weight = IsGraded terms entry alone fault weight

abbrev pub IsWeight : Terms → Content → EntryKind → Bool → No → Weight → Type 0
IsWeight terms entry kind alone fault weight = WeighsBy (is_lent kind fault.cause) terms entry alone fault weight

-- a fault of an entry, as a finding
pub record IsFinding (terms : Terms) (entry : Content) (kind : EntryKind) (alone : Bool) (no : No) (finding : Finding)
    : Type 0 where
  pub cap : finding.cap ≡ no.cap
  pub cause : finding.cause ≡ cause_number no.cause
  pub weight : IsWeight terms entry kind alone no finding.weight

-- each of the faults of an entry, as a finding
abbrev pub AreFindings : Terms → Content → List No → List Finding → Type 0
AreFindings terms entry nos findings =
    AllZip (IsFinding terms entry (listed_kind entry nos) (length nos == 1)) nos findings

-- all that is found about an entry
pub record Finds (terms : Terms) (entry : Content) (findings : List Finding) : Type 0 where
  pub nos : List No
  pub all : AreAllFaults entry terms.size.rows terms.size.cols nos
  pub are : AreFindings terms entry nos findings
