-- Strings that don't do on T what their names mean, as a run of each beside the meaning shows.
use Rattle.std.specs.Prelude.{◌≡◌, ℕ, pos, Bool, true, false, List, [], ◌∷◌, ◌++◌, Option, Some, None}
use Rattle.std.specs.Prelude.{◌&&◌, not, option_map, codes}
use Rattle.ti_caps.specs.Entry.{Content}
use Rattle.ti_caps.specs.Table.{place_in}
use Rattle.ti_parm.specs.Value.{Value, Number, values_of}
use Rattle.ti_parm.specs.declared.param.Param.{Param}
use Rattle.ti_advice.specs.Duties.{all, name, number, start, is_mark}
pub use Rattle.ti_advice.specs.Duties.{begun, standard}
use Rattle.ti_advice.specs.Parts.{HasParts, IsAtMost}
use Rattle.ti_advice.specs.Runs.{DoAlike, DoUnlike}
use Rattle.ti_advice.specs.Strings.{IsOwn, IsSent, has_string, or_none, string_named}
use Rattle.ti_advice.specs.declared.advice.Advice.{Advice}
use Rattle.ti_advice.specs.declared.advice.AdviceKind.TheVariants.{Deed}
use Rattle.ti_advice.specs.declared.duties.Duty.{Duty}
use Rattle.ti_advice.specs.declared.duties.Duty.TheVariants.{Smul, Rev, Blink, Dim, Bold, Invis}
use Rattle.ti_advice.specs.declared.duties.Duty.TheVariants.{Smso, Rmul, Rmso, Ich1, Ich}
use Rattle.ti_advice.specs.declared.duties.Duty.TheVariants.{Dch1, Dch, Il1, Il, Dl1, Dl, Indn, Rin, Ht, Cbt}
use Rattle.ti_advice.specs.declared.duties.Duty.TheVariants.{Nel, Sc, Rc, Flash, Rmam, Smam, Smir, Rmir, Smkx, Rmkx}

-- ---- the run

-- the parameters with which the string of a duty is sent
abbrev pub given : Duty → List Value
given duty = Number (pos (number duty)) ∷ []

abbrev pub AreGiven : Duty → List Param → Type 0
AreGiven duty params = values_of params ≡ given duty

-- every cell but those of the last column shows another character, and the cursor is at the first place
abbrev pub cells : List ℕ
cells = codes "abcdefghi" ++ 13 ∷ 10 ∷ codes "jklmnopqr" ++ 13 ∷ 10 ∷ codes "stuvwxyzA" ++ 13 ∷ 10 ∷ codes "BCDEFGHIJ"
    ++ 13 ∷ 10 ∷ codes "KLMNOPQRS" ++ 27 ∷ codes "[H"

-- what the entry's own string sends to begin what a duty ends
abbrev pub IsBegun : Content → Option (List ℕ) → List ℕ → Type 0
IsBegun entry None bytes = bytes ≡ []
IsBegun entry (Some begins) bytes =
    (found : Option (List ℕ)) × IsOwn entry begins [] found × (bytes ≡ or_none found)

-- the bytes before those of the duty
pub record IsLead (entry : Content) (duty : Duty) (bytes : List ℕ) : Type 0 where
  pub begins : List ℕ
  pub own : IsBegun entry (begun duty) begins
  pub is : bytes ≡ (cells ++ start duty) ++ begins

-- all marks and both colors go on (ECMA-48 8.3.117)
abbrev pub all_marks : List ℕ
all_marks = codes "x" ++ 27 ∷ codes "[1;2;4;5;7;8;31;42m"

-- A run of some bytes: characters behind them show marks, insertion and wrapping. A string that begins a mark is sent
-- in default rendition, and then where all marks are on.
abbrev pub framed : List ℕ → Bool → List ℕ → List ℕ
framed lead false own = (lead ++ own) ++ codes "xyz"
framed lead true own = (((lead ++ own) ++ all_marks) ++ own) ++ codes "xyz"

abbrev pub run_of : Duty → List ℕ → List ℕ → List ℕ
run_of duty lead own = framed lead (is_mark duty) own

-- the bytes are those of the meaning, or do what it does
pub data DoesAsMeant (entry : Content) (duty : Duty) (own : List ℕ) : Type 0 where
  Standard : own ≡ standard duty → DoesAsMeant entry duty own
  Alike : (lead : List ℕ) → IsLead entry duty lead → DoAlike (run_of duty lead own) (run_of duty lead (standard duty))
      → DoesAsMeant entry duty own

pub record DoesElse (entry : Content) (duty : Duty) (own : List ℕ) : Type 0 where
  pub lead : List ℕ
  pub leads : IsLead entry duty lead
  pub unlike : DoUnlike (run_of duty lead own) (run_of duty lead (standard duty))

-- ---- the advice

-- the entry has an insertion mode, and nothing that has to be sent before a character (terminfo(5), "Insert/Delete
-- Character")
abbrev pub is_nothing : Option (List ℕ) → Bool
is_nothing (Some []) = true
is_nothing (Some (first ∷ others)) = false
is_nothing None = false

abbrev pub inserts_by_mode : Content → Bool
inserts_by_mode entry = has_string entry (codes "smir") && is_nothing (string_named entry (codes "ich1"))

-- a string that begins a mark is checked where there is no `sgr`, and there is advice only beside one
abbrev pub applies : Content → Duty → Bool
applies entry Smul = has_string entry (codes "sgr")
applies entry Rev = has_string entry (codes "sgr")
applies entry Blink = has_string entry (codes "sgr")
applies entry Dim = has_string entry (codes "sgr")
applies entry Bold = has_string entry (codes "sgr")
applies entry Invis = has_string entry (codes "sgr")
applies entry Smso = has_string entry (codes "sgr")
applies entry Rmul = true
applies entry Rmso = true
applies entry Ich1 = not (inserts_by_mode entry)
applies entry Ich = true
applies entry Dch1 = true
applies entry Dch = true
applies entry Il1 = true
applies entry Il = true
applies entry Dl1 = true
applies entry Dl = true
applies entry Indn = true
applies entry Rin = true
applies entry Ht = true
applies entry Cbt = true
applies entry Nel = true
applies entry Sc = true
applies entry Rc = true
applies entry Flash = true
applies entry Rmam = true
applies entry Smam = true
applies entry Smir = true
applies entry Rmir = true
applies entry Smkx = true
applies entry Rmkx = true

-- the advice on a duty, with what its string sends
pub record IsOn (duty : Duty) (run : Option (List ℕ)) (advice : Advice) : Type 0 where
  pub cap : place_in (name duty) ≡ Some advice.cap
  pub kind : advice.kind ≡ Deed duty
  pub shows : option_map (λ bytes. bytes.items) advice.run ≡ run

abbrev pub IsAdviceOf : Duty → Option (List ℕ) → Option Advice → Type 0
IsAdviceOf duty run None = place_in (name duty) ≡ None
IsAdviceOf duty run (Some advice) = IsOn duty run advice

-- there is advice exactly on bytes that do something else
pub data IsOwnJudged (entry : Content) (duty : Duty) (own : List ℕ) (found : Option Advice) : Type 0 where
  Right : DoesAsMeant entry duty own → found ≡ None → IsOwnJudged entry duty own found
  Wrong : DoesElse entry duty own → IsAdviceOf duty (Some own) found → IsOwnJudged entry duty own found

-- and on a string that can't be expanded
abbrev pub IsSentJudged : Content → Duty → Option (List ℕ) → Option Advice → Type 0
IsSentJudged entry duty None found = IsAdviceOf duty None found
IsSentJudged entry duty (Some own) found = IsOwnJudged entry duty own found

pub record IsJudged (entry : Content) (duty : Duty) (string : List ℕ) (found : Option Advice) : Type 0 where
  pub own : Option (List ℕ)
  pub sends : IsSent string (given duty) own
  pub judged : IsSentJudged entry duty own found

abbrev pub IsJudgedIf : Content → Duty → Option (List ℕ) → Option Advice → Type 0
IsJudgedIf entry duty None found = found ≡ None
IsJudgedIf entry duty (Some string) found = IsJudged entry duty string found

-- whether the string is one on which there can be advice
abbrev pub IsJudgedWhere : Bool → Content → Duty → Option Advice → Type 0
IsJudgedWhere true entry duty found = IsJudgedIf entry duty (string_named entry (name duty)) found
IsJudgedWhere false entry duty found = found ≡ None

abbrev pub IsDutyAdvice : Content → Duty → Option Advice → Type 0
IsDutyAdvice entry duty found = IsJudgedWhere (applies entry duty) entry duty found

-- of each of some duties in turn
abbrev pub AreDeedsOf : Content → List Duty → List Advice → Type 0
AreDeedsOf entry duties list = HasParts (IsAtMost (IsDutyAdvice entry)) duties list

abbrev pub AreDeeds : Content → List Advice → Type 0
AreDeeds entry list = AreDeedsOf entry all list
