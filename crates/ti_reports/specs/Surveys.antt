-- The answer of `survey --json`, by the contents of its files.
use Rattle.std.specs.Prelude.{◌≡◌, ℕ, Bool, true, false, List, [], ◌∷◌, ◌++◌, Option, Some, None, codes}
use Rattle.std.specs.Prelude.{string_bytes}
use Rattle.std.specs.List.{list_any}
use Rattle.ti_caps.specs.Entry.{Content}
use Rattle.ti_checker.specs.declared.causes.No.{No}
use Rattle.ti_files.specs.Contents.{Held}
use Rattle.ti_files.specs.Refusals.{refusal_text_of}
use Rattle.ti_files.specs.Words.{texts_of}
use Rattle.ti_files.specs.declared.failure.CommandRefusal.{CommandRefusal}
use Rattle.ti_files.specs.declared.failure.Failure.{Failure}
use Rattle.ti_files.specs.declared.failure.Reply.{Reply}
use Rattle.ti_reports.specs.Faults.{AreFound, HasWords}
use Rattle.ti_reports.specs.Forms.{Printing, Wanting, is_news}
use Rattle.ti_reports.specs.Findings.{AreFaults}
use Rattle.ti_reports.specs.Names.{IsNameIf}
use Rattle.ti_reports.specs.Reports.{IsBare}
use Rattle.ti_reports.specs.Sizes.{AtSize}
use Rattle.ti_reports.specs.Sources.{IsNowhere, IsRefusalPlace, fault_file}
use Rattle.ti_reports.specs.declared.places.ValuePlace.{ValuePlace}
use Rattle.ti_reports.specs.declared.hints.Hinted.{Hinted}
use Rattle.ti_reports.specs.declared.hints.Hinted.TheVariants.{Own, Unhinted}
use Rattle.ti_reports.specs.declared.reports.Report.{Report}
use Rattle.ti_reports.specs.declared.reports.Verdict.TheVariants as verdicts
use Rattle.ti_requests.specs.declared.request.SurveyWords.{SurveyWords}
use Rattle.ti_surveys.specs.Kinds.{kind_answers, kind_of}
use Rattle.ti_surveys.specs.declared.kinds.EntryKind.{EntryKind}
use Rattle.ti_surveys.specs.Lines.{AreLines, Leaving, Refusing, Saying}
use Rattle.ti_surveys.specs.Places.{places_text}
use Rattle.ti_surveys.specs.Strict.{EndsStrictly}
use Rattle.ti_surveys.specs.Surveys.{EndsPaths}
use Rattle.ti_surveys.specs.Told.{Told}
use Rattle.ti_verdicts.specs.Locations.{PlaceInSource}
use Rattle.ti_verdicts.specs.Parts.{HasParts}
use Rattle.ti_sources.specs.LinedFiles.{FileText}
use Rattle.ti_verdicts.specs.declared.answers.Answer.{Answer}
use Rattle.ti_verdicts.specs.declared.answers.Answer.TheVariants as answers

-- ---- an entry

-- the report that no entry of this name, or of the whole file, can be obtained, with the reason and its place
pub record ReportsRefused (height width : ℕ) (path : List ℕ) (name : Option (List ℕ)) (why : List ℕ)
    (place : ValuePlace) (report : Report) : Type 0 where
  pub entry : IsNameIf name report.entry
  pub no_aliases : report.aliases.items ≡ []
  pub no_part : report.is_part ≡ None
  pub rows : report.rows ≡ height
  pub cols : report.cols ≡ width
  pub file : string_bytes report.file ≡ path
  pub verdict : report.verdict ≡ verdicts.Refused
  pub cause : HasWords why report.cause
  pub stands : report.finding.place ≡ place
  pub bare : IsBare report.finding

-- the reason why a file can't be read, in words
abbrev pub file_text : List ℕ → List ℕ
file_text path = codes "file: " ++ path

-- a survey of all faults gives hints about the fields of each entry
abbrev pub hinted_in : Bool → Hinted
hinted_in true = Own
hinted_in false = Unhinted

-- the answers about an entry if the form tells of one of its faults, and else yes
abbrev pub answers_if : Bool → EntryKind → List No → List Answer
answers_if true kind nos = kind_answers kind nos
answers_if false kind nos = answers.Yes ∷ []

abbrev pub answer_if : Bool → Answer
answer_if true = answers.Refused
answer_if false = answers.Yes

-- The reports on an entry that is there, as the form prints them, and nothing beside them; and their answers.
pub record AreOfEntry (Wanted : Wanting) (Prints : Printing) (height width : ℕ) (all : Bool) (originals : List FileText)
    (path : List ℕ) (stands : Option PlaceInSource) (entry : Content) (told : Told) : Type 0 where
  pub nos : List No
  pub found : AreFaults all entry height width nos
  pub reports : List Report
  pub tells : AreFound entry height width all (hinted_in all) path originals stands nos reports
  pub printed : HasParts Prints reports told.lines
  pub each : told.answers ≡ answers_if (list_any (is_news Wanted) reports) (kind_of all entry nos) nos
  pub no_places : told.places ≡ []

abbrev pub Reports : Wanting → Printing → ℕ → ℕ → Bool → List FileText → Saying
Reports Wanted Prints height width all originals path stands name entry told =
    AreOfEntry Wanted Prints height width all originals path stands entry told

-- one report that something can't be obtained, as the form prints it, and nothing beside it
pub record TellsOne (Wanted : Wanting) (Prints : Printing) (report : Report) (told : Told) : Type 0 where
  pub printed : Prints report told.lines
  pub answered : told.answers ≡ answer_if (is_news Wanted report) ∷ []
  pub no_places : told.places ≡ []

-- the report on an entry that can't be obtained, or on a whole file, with the refusal and its reason's place
pub record IsOfRefusal (height width : ℕ) (path : List ℕ) (stands : Option PlaceInSource) (name : Option (List ℕ))
    (refusal : CommandRefusal) (report : Report) : Type 0 where
  pub place : ValuePlace
  pub found : IsRefusalPlace stands (Some (fault_file path stands)) refusal place
  pub says : ReportsRefused height width path name (refusal_text_of refusal) place report

abbrev pub ReportsLack : Wanting → Printing → ℕ → ℕ → Refusing
ReportsLack Wanted Prints height width path stands name refusal told =
    (report : Report) × IsOfRefusal height width path stands name refusal report × TellsOne Wanted Prints report told

-- the report on a file that can't be read
pub record IsUnread (height width : ℕ) (path : List ℕ) (report : Report) : Type 0 where
  pub place : ValuePlace
  pub nowhere : IsNowhere place
  pub says : ReportsRefused height width path None (file_text path) place report

abbrev pub ReportsUnread : Wanting → Printing → ℕ → ℕ → Leaving
ReportsUnread Wanted Prints height width path told =
    (report : Report) × IsUnread height width path report × TellsOne Wanted Prints report told

-- ---- the reply

-- The reports on each path are heard as the form prints them, also on one that can't be read, and the reply has no
-- text. It fails if a path can't be read, or, if the words ask for it, if a verdict of which the form tells isn't yes.
pub record AreSurveyedAt (Wanted : Wanting) (Prints : Printing) (originals : List FileText) (held : Held)
    (words : SurveyWords) (remarks : List (List ℕ)) (AreHeard : List ℕ → Type 0) (reply : Reply) (height width : ℕ)
    : Type 0 where
  pub told : Told
  pub failed : Option Failure
  pub ends : EndsPaths
      (AreLines (Reports Wanted Prints height width words.lists_all originals) (ReportsLack Wanted Prints height width))
      (ReportsUnread Wanted Prints height width) held (texts_of words.paths.items) told failed remarks
  pub strictly : EndsStrictly words.is_strict told.answers failed reply.failure
  pub places : reply.notes.items ≡ places_text told.places
  pub heard : AreHeard told.lines
  pub no_text : reply.text.items ≡ []

-- that, at the size that the words give
abbrev pub AreSurveyed : Wanting → Printing → List FileText → Held → SurveyWords → List (List ℕ) → (List ℕ → Type 0)
    → Reply → Type 0
AreSurveyed Wanted Prints originals held words remarks AreHeard reply =
    AtSize words.rows.now words.cols.now (AreSurveyedAt Wanted Prints originals held words remarks AreHeard reply)
