-- The report that an ENTRY word gives no entry.
use Rattle.std.specs.Prelude.{◌≡◌, ◌⊎◌, ℕ, Bool, true, false, List, [], ◌∷◌, Option, Some, None, string_bytes}
use Rattle.std.specs.Prelude.{if◌then◌else◌}
use Rattle.ti_commands.specs.Findings.{IsPath, IsPathAndName}
use Rattle.ti_files.specs.Refusals.{refusal_text_of}
use Rattle.ti_files.specs.declared.failure.Failure.{Failure}
use Rattle.ti_files.specs.declared.failure.Failure.TheVariants.{Refused, RefusedUnwritten, Usage, File, Output}
use Rattle.ti_files.specs.declared.failure.Failure.TheVariants.{NoMemory}
use Rattle.ti_files.specs.declared.failure.Reply.{Reply}
use Rattle.ti_reports.specs.Sources.{IsNowhere, IsRefusalPlace}
use Rattle.ti_reports.specs.Surveys.{ReportsRefused, file_text}
use Rattle.ti_reports.specs.Forms.{Printing, Wanting, is_news}
use Rattle.ti_reports.specs.declared.reports.Report.{Report}
use Rattle.ti_reports.specs.declared.places.ValuePlace.{ValuePlace}

-- the reason of a failure in words: what its first line on standard error has behind `refused: `, or that line
abbrev pub IsReason : Failure → List ℕ → Type 0
IsReason (Refused refusal) why = why ≡ refusal_text_of refusal
IsReason (RefusedUnwritten refusal) why = why ≡ refusal_text_of refusal
IsReason (Usage told) why = why ≡ string_bytes told
IsReason (File path) why = why ≡ file_text (string_bytes path)
IsReason Output why = ⊥
IsReason NoMemory why = ⊥

-- the place at which the reason is found: that of the refusal, in the text at this path, as far as it says it by itself
abbrev pub IsReasonPlace : Option (List ℕ) → Failure → ValuePlace → Type 0
IsReasonPlace path (Refused refusal) place = IsRefusalPlace None path refusal place
IsReasonPlace path (RefusedUnwritten refusal) place = IsRefusalPlace None path refusal place
IsReasonPlace path (Usage told) place = IsNowhere place
IsReasonPlace path (File unread) place = IsNowhere place
IsReasonPlace path Output place = IsNowhere place
IsReasonPlace path NoMemory place = IsNowhere place

-- whether there is no file of `--with`
abbrev pub is_alone : List (List ℕ) → Bool
is_alone [] = true
is_alone (path ∷ paths) = false

-- the path of the text with a fault: that of the ENTRY word, but if there are others it may be one of them
abbrev pub sole_path : Bool → List ℕ → Option (List ℕ)
sole_path alone path = if alone then Some path else None

-- the report on the entry of this name in the file at a path, or on the whole file, with the reason and its place
pub record IsLackOf (height width : ℕ) (alone : Bool) (failure : Failure) (path : List ℕ) (name : Option (List ℕ))
    (report : Report) : Type 0 where
  pub why : List ℕ
  pub reason : IsReason failure why
  pub place : ValuePlace
  pub stands : IsReasonPlace (sole_path alone path) failure place
  pub says : ReportsRefused height width path name why place report

-- the report on the entry of a source text, or on a compiled file
abbrev pub IsLack : ℕ → ℕ → Bool → List ℕ → Failure → Report → Type 0
IsLack height width alone word failure report =
    ((path : List ℕ) × (name : List ℕ) × IsPathAndName word path name
    × IsLackOf height width alone failure path (Some name) report)
    ⊎ (IsPath word × IsLackOf height width alone failure word None report)

-- a refusal of which the form doesn't tell is no failure
abbrev pub told_failure : Bool → Failure → Option Failure
told_failure true failure = Some failure
told_failure false (Refused refusal) = None
told_failure false (RefusedUnwritten refusal) = Some (RefusedUnwritten refusal)
told_failure false (Usage told) = Some (Usage told)
told_failure false (File path) = Some (File path)
told_failure false Output = Some Output
told_failure false NoMemory = Some NoMemory

-- the reply reports that the word gives no entry, with the reason for which it fails and its place
pub record ReportsLackOf (Wanted : Wanting) (Prints : Printing) (height width : ℕ) (alone : Bool) (word : List ℕ)
    (failure : Failure) (reply : Reply) : Type 0 where
  pub report : Report
  pub lacks : IsLack height width alone word failure report
  pub printed : Prints report reply.text.items
  pub no_notes : reply.notes.items ≡ []
  pub ends : reply.failure ≡ told_failure (is_news Wanted report) failure
