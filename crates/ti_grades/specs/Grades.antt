-- The grade of a fault: what it is to people who keep entries. The first that holds is its grade.
use Rattle.std.specs.Prelude.{◌≡◌, ◌&&◌, ◌||◌, ℕ, not, Bool, true, false, if◌then◌else◌, List, [], ◌∷◌, codes}
use Rattle.std.specs.Prelude.{Option, Some, None}
use Rattle.ti_caps.specs.Entry.{Content, string_at}
use Rattle.ti_checker.specs.declared.causes.Cause.{Cause}
use Rattle.ti_checker.specs.declared.causes.Cause.TheVariants as causes
use Rattle.ti_checker.specs.declared.causes.No.{No}
use Rattle.ti_grades.specs.Codes.{has_code, is_designation}
use Rattle.ti_grades.specs.FaultRuns.{AreRuns, IsRowFor, IsSentFor}
use Rattle.ti_grades.specs.Functions.{IsBeyond}
use Rattle.ti_grades.specs.Odds.{bytes_of, is_against, is_elsewhere, witness_for}
use Rattle.ti_grades.specs.Sequences.{IsTokenFault, is_open_control, is_padded}
use Rattle.ti_grades.specs.declared.codes.CodeKind.TheVariants.{Reads, Control}
use Rattle.ti_grades.specs.declared.effects.Runs.{Runs}
use Rattle.ti_grades.specs.declared.grades.Grade.{Grade}
use Rattle.ti_grades.specs.declared.grades.Grade.TheVariants.{Broken, Contradicts, Unknown, Wrong}
use Rattle.ti_grades.specs.declared.odds.Witness.{Witness}
use Rattle.ti_parm.specs.declared.fault.ParmFault.{ParmFault}
use Rattle.ti_parm.specs.declared.fault.ParmFault.TheVariants as faults
use Rattle.ti_rows.specs.Params.{params}
use Rattle.ti_rows.specs.declared.rows.Row.{Row}
use Rattle.ti_rows.specs.declared.rows.Row.TheVariants.{Sgr}
use Rattle.vt_term.specs.declared.tokenizer.TokenFault.{TokenFault}

-- the word of a grade
abbrev pub word : Grade → List ℕ
word Broken = codes "broken"
word Contradicts = codes "contradicts"
word Unknown = codes "unknown"
word Wrong = codes "wrong"

-- ---- broken: for any terminal

-- The string is none in terminfo's language of parameters; a `%` before a control is left out, since ncurses reads the
-- `%^` of a source as another code.
abbrev pub is_no_code : ParmFault → List ℕ → Bool
is_no_code faults.Underflow string = true
is_no_code faults.BadNest string = true
is_no_code faults.WrongKind string = true
is_no_code faults.Overflow string = true
is_no_code faults.BadChar string = true
is_no_code faults.BadCode string = not (has_code Control string)
is_no_code faults.NoMemory string = false

abbrev pub takes_none : List ℕ → Bool
takes_none [] = true
takes_none (first ∷ more) = false

-- It depends on the program: the capability takes no parameter, so that a program may send the string as it is, and
-- each `%` of it stands where such a string may have one.
abbrev pub may_be_plain : Option Row → List ℕ → Bool
may_be_plain None string = false
may_be_plain (Some row) string = takes_none (params row) && is_designation string

abbrev pub is_broken_code : ParmFault → Option Row → List ℕ → Bool
is_broken_code fault row string = is_no_code fault string && not (may_be_plain row string)

-- Or what it sends is no control sequence of ECMA-48: one that is stuck at a number behind a blank or a sign, or one
-- without an end.
abbrev pub is_broken_text : Cause → Option Row → List ℕ → List ℕ → Option TokenFault → Bool
is_broken_text (causes.Parm fault) row string sent end = is_broken_code fault row string
is_broken_text causes.Stuck row string sent end = is_padded sent end
is_broken_text causes.Unfinished row string sent end = is_open_control sent end
is_broken_text causes.FlagOut row string sent end = false
is_broken_text causes.Absent row string sent end = false
is_broken_text causes.AcsByte row string sent end = false
is_broken_text causes.StaticRead row string sent end = false
is_broken_text causes.NotTame row string sent end = false
is_broken_text causes.BadLook row string sent end = false
is_broken_text (causes.WrongEffect probe) row string sent end = false
is_broken_text causes.NotShown row string sent end = false
is_broken_text causes.TooLong row string sent end = false
is_broken_text causes.NoResync row string sent end = false
is_broken_text causes.NoMemory row string sent end = false

-- the digits of `%p1` and `%p2`
abbrev pub reads_first : List ℕ → Bool
reads_first string = has_code (Reads 49) string

abbrev pub reads_second : List ℕ → Bool
reads_second string = has_code (Reads 50) string

abbrev pub reads_each : List ℕ → List ℕ → Bool
reads_each [] string = true
reads_each (first ∷ []) string = reads_first string
reads_each (first ∷ second ∷ more) string = reads_first string && reads_second string

-- or no code reads one of the row's parameters; `sgr` needn't show each attribute
abbrev pub is_unread : Option Row → List ℕ → Bool
is_unread None string = false
is_unread (Some (Sgr attributes)) string = false
is_unread (Some row) string = not (reads_each (params row) string)

abbrev pub is_broken : Cause → Option Row → List ℕ → List ℕ → Option TokenFault → Bool
is_broken cause row string sent end = is_broken_text cause row string sent end || is_unread row string

-- ---- unknown: T hasn't the function, or it wasn't judged

abbrev pub is_unknown : Cause → Bool → Bool → Bool
is_unknown causes.NotTame alone beyond = true
is_unknown causes.NotShown alone beyond = true
is_unknown causes.Stuck alone beyond = true
is_unknown causes.Unfinished alone beyond = true
is_unknown causes.TooLong alone beyond = true
is_unknown causes.StaticRead alone beyond = true
is_unknown causes.FlagOut alone beyond = true
is_unknown causes.AcsByte alone beyond = true
is_unknown causes.NoMemory alone beyond = true
is_unknown (causes.Parm fault) alone beyond = true
is_unknown causes.NoResync alone beyond = not alone
is_unknown (causes.WrongEffect probe) alone beyond = beyond
is_unknown causes.BadLook alone beyond = false
is_unknown causes.Absent alone beyond = false

-- ---- the first that holds

abbrev pub first_grade : Bool → Bool → Bool → Grade
first_grade broken contradicts unknown =
    if broken then Broken else (if contradicts then Contradicts else (if unknown then Unknown else Wrong))

-- whether a fault is broken is given, and whether all that the string sends is beyond T
abbrev pub graded : Cause → Bool → Bool → Witness → Bool → Grade
graded cause alone broken witness beyond =
    first_grade broken (is_against witness) (is_unknown cause alone (beyond || is_elsewhere witness))

-- The grade of an entry's fault, on a terminal of a size; whether it is the only one.
pub record IsGrade (entry : Content) (rows cols : ℕ) (no : No) (alone : Bool) (grade : Grade) : Type 0 where
  pub row : Option Row
  pub of : IsRowFor no row
  pub sent : Option (List ℕ)
  pub sent_is : IsSentFor row (string_at entry no.cap) sent
  pub end : Option TokenFault
  pub end_is : IsTokenFault (bytes_of sent) end
  pub runs : Runs
  pub runs_are : AreRuns rows cols entry row (string_at entry no.cap) runs
  pub beyond : Bool
  pub beyond_is : IsBeyond rows cols no.cause row (string_at entry no.cap) beyond
  pub is : grade ≡ graded no.cause alone
      (is_broken no.cause row (bytes_of (string_at entry no.cap)) (bytes_of sent) end)
      (witness_for entry no.cause row (bytes_of (string_at entry no.cap)) (bytes_of sent) runs) beyond
