-- The reports on an entry: that it has a certificate, or each of its faults.
use Rattle.std.specs.Prelude.{◌≡◌, ℕ, Bool, true, false, List, [], ◌∷◌, ◌++◌, Option, Some, None, IfSome, String, map}
use Rattle.std.specs.Prelude.{◌==◌, length, option_map, string_bytes}
use Rattle.std.specs.List.{AllByRecursion}
use Rattle.std.specs.declared.alloc.Global.{Global}
use Rattle.ti_caps.specs.Entry.{Content, string_at}
use Rattle.ti_caps.specs.Table.{name_at}
use Rattle.ti_checker.specs.declared.causes.No.{No}
use Rattle.ti_faults.specs.declared.mended.Mended.{Mended}
use Rattle.ti_grades.specs.Grades.{IsGrade}
use Rattle.ti_grades.specs.declared.grades.Grade.{Grade}
use Rattle.ti_hints.specs.Places.{IsHintOf}
use Rattle.ti_hints.specs.declared.hints.FieldHint.{FieldHint}
use Rattle.ti_reports.specs.Explanations.{HasDigits, ShowsRun}
use Rattle.ti_openings.specs.Openings.{IsBound, texts_of}
use Rattle.ti_openings.specs.declared.bounds.Bound.{Bound}
use Rattle.ti_reports.specs.Names.{AreAliases, HasName}
use Rattle.ti_reports.specs.Hints.{HintText, IsHintPlace, hint_text}
use Rattle.ti_reports.specs.Openings.{AreLeftOut, IsNameText}
use Rattle.ti_reports.specs.Reports.{IsNothing, SaysWords}
use Rattle.ti_reports.specs.Sources.{IsFaultyAt, IsNowhere, IsValuePlace}
use Rattle.ti_reports.specs.Spellings.{IsSpelling}
use Rattle.ti_reports.specs.Suggestions.{AreFields, IsMendedFor, IsSuggested, is_judged, mended_with, other_kind}
use Rattle.ti_reports.specs.Texts.{IsShownAs}
use Rattle.ti_reports.specs.declared.faults.Subject.{Subject}
use Rattle.ti_reports.specs.declared.hints.Hinted.{Hinted}
use Rattle.ti_reports.specs.declared.hints.Hinted.TheVariants.{Own, Unhinted, WithUsed}
use Rattle.ti_reports.specs.declared.reports.Finding.{Finding}
use Rattle.ti_reports.specs.declared.reports.Report.{Report}
use Rattle.ti_reports.specs.declared.reports.Verdict.{Verdict}
use Rattle.ti_reports.specs.declared.reports.Verdict.TheVariants as verdicts
use Rattle.ti_source.specs.Layout.{lines_of}
use Rattle.ti_surveys.specs.Parts.{is_part}
use Rattle.ti_verdicts.specs.FaultRuns.{IsRunOf}
use Rattle.ti_verdicts.specs.Parts.{HasParts}
use Rattle.ti_verdicts.specs.Locations.{PlaceInSource, first_name, place_if}
use Rattle.ti_verdicts.specs.Refusals.{cause_name}
use Rattle.ti_verdicts.specs.declared.fault_runs.FaultRun.{FaultRun}
use Rattle.ti_sources.specs.LinedFiles.{FileText, file_text}
use denote.Ref.{Bor}

-- the text of these bytes is there
abbrev pub HasWords : List ℕ → Option (String Global) → Type 0
HasWords bytes (Some text) = IsShownAs bytes (string_bytes text)
HasWords bytes None = ⊥

-- the report is about this entry, for this size, in this file
pub record Concerns (entry : Content) (height width : ℕ) (file : List ℕ) (report : Report) : Type 0 where
  pub name : HasName (first_name entry.names) report.entry
  pub aliases : AreAliases entry.names report.aliases.items
  pub part : report.is_part ≡ Some (is_part entry)
  pub rows : report.rows ≡ height
  pub cols : report.cols ≡ width
  pub path : string_bytes report.file ≡ file

-- the entry has a certificate, and a session on it this bound
pub record ReportsYes (entry : Content) (height width : ℕ) (file : List ℕ) (report : Report) : Type 0 where
  pub about : Concerns entry height width file report
  pub bound : Bound
  pub is_bound : IsBound entry height width bound
  pub verdict : report.verdict ≡ verdicts.Yes bound
  pub cause : report.cause ≡ None
  pub faultless : IsNothing report.finding

-- The subject of the reports on an entry's faults: the entry, the terminal's size, the texts of those files whose lines
-- were joined, the place of the entry, whether all of its faults are reported, these faults, the entry in which they
-- are mended, if there is one, and the names of what a session goes without.
pub record OfFaults : Type 0 where
  pub entry : Content
  pub height : ℕ
  pub width : ℕ
  pub originals : List FileText
  pub stands : Option PlaceInSource
  pub all : Bool
  pub nos : List No
  pub mended : Option Mended
  pub left_out : List (Bor (List ℕ))

abbrev pub of_faults : Content → ℕ → ℕ → List FileText → Option PlaceInSource → Bool → List No → Option Mended
    → List (Bor (List ℕ)) → OfFaults
of_faults entry height width originals stands all nos mended left_out = record {
  entry = entry;
  height = height;
  width = width;
  originals = originals;
  stands = stands;
  all = all;
  nos = nos;
  mended = mended;
  left_out = left_out;
}

-- the grade of this fault, which may be the only one of these
abbrev pub HasGrade : OfFaults → No → Option Grade → Type 0
HasGrade of refusal (Some grade) =
    IsGrade of.entry of.height of.width refusal (length of.nos == 1) grade
HasGrade of refusal None = ⊥

-- what is found of this fault
pub record Finds (of : OfFaults) (refusal : No) (finding : Finding) : Type 0 where
  pub capability : HasWords (name_at refusal.cap) finding.capability
  pub parameters : finding.parameters.items ≡ refusal.params.items
  pub run : FaultRun
  pub runs : IsRunOf of.entry of.height of.width refusal run
  pub bytes : HasDigits (option_map (λ bytes. bytes.items) run.sent) finding.bytes
  pub place : IsValuePlace of.originals of.stands refusal.cap finding.place
  pub faulty_region : IfSome finding.faulty_region (IsFaultyAt of.originals of.stands refusal.cap)
  pub string_is : IsSpelling (string_at of.entry refusal.cap) finding.string
  pub suggestion : IsSuggested of.entry of.mended refusal.cap finding.suggestion
  pub suggested_with : AreFields of.entry of.mended (mended_with refusal.cap)
      (map string_bytes finding.suggested_with.items)
  pub explains : ShowsRun run finding.run
  pub judged : finding.judged ≡ Some (is_judged refusal.cause)
  pub grade : HasGrade of refusal finding.grade
  pub another_kind : finding.another_kind ≡ other_kind of.all of.nos
  pub left_out : HasParts IsNameText of.left_out finding.left_out.items

-- the entry has this fault
pub record ReportsFault (of : OfFaults) (file : List ℕ) (refusal : No) (report : Report) : Type 0 where
  pub about : Concerns of.entry of.height of.width file report
  pub verdict : report.verdict ≡ verdicts.No
  pub cause : HasWords (cause_name refusal.cause) report.cause
  pub finds : Finds of refusal report.finding

-- one report, of which this holds
abbrev pub IsOne : (Report → Type 0) → List Report → Type 0
IsOne P reports = (report : Report) × P report × (reports ≡ report ∷ [])

abbrev pub IsFaultReport : OfFaults → List ℕ → No → List Report → Type 0
IsFaultReport of file refusal reports = IsOne (ReportsFault of file refusal) reports

-- a report for each fault, in their order; with all faults of the entry, they are mended for the suggestions, and the
-- reports have what a session goes without
pub record AreFaultReports (entry : Content) (height width : ℕ) (all : Bool) (file : List ℕ) (originals : List FileText)
    (stands : Option PlaceInSource) (nos : List No) (reports : List Report) : Type 0 where
  pub mended : Option Mended
  pub mends : IsMendedFor all entry height width nos mended
  pub left_out : List (Bor (List ℕ))
  pub leaves : AreLeftOut all entry height width (texts_of left_out)
  pub each : HasParts
      (IsFaultReport (of_faults entry height width originals stands all nos mended left_out) file) nos reports

-- a report for each fault, or one that there is none
abbrev pub AreVerdicts : Content → ℕ → ℕ → Bool → List ℕ → List FileText → Option PlaceInSource → List No → List Report
    → Type 0
AreVerdicts entry height width all file originals stands [] reports = IsOne (ReportsYes entry height width file) reports
AreVerdicts entry height width all file originals stands (first ∷ others) reports =
    AreFaultReports entry height width all file originals stands (first ∷ others) reports

-- there is advice on the entry, whatever it is, at no place
pub record ReportsAdvice (entry : Content) (height width : ℕ) (file : List ℕ) (report : Report) : Type 0 where
  pub about : Concerns entry height width file report
  pub verdict : report.verdict ≡ verdicts.Advice
  pub cause : report.cause ≡ None
  pub nowhere : IsNowhere report.finding.place
  pub advises : SaysWords report.finding

-- the name of the capability, if there is one
abbrev pub IsCapIf : Option ℕ → Option (String Global) → Type 0
IsCapIf None text = text ≡ None
IsCapIf (Some cap) text = HasWords (name_at cap) text

-- there is a hint about a field of the entry at a place of a source text, of any kind and in any words
pub record ReportsHint (entry : Content) (height width : ℕ) (file : List ℕ) (text : HintText) (place : ℕ)
    (report : Report) : Type 0 where
  pub about : Concerns entry height width file report
  pub hint : FieldHint
  pub found : IsHintOf (lines_of text.text) text.raws place hint
  pub verdict : report.verdict ≡ verdicts.Hint hint.kind
  pub cause : report.cause ≡ None
  pub stands : IsHintPlace text hint report.finding.place
  pub capability : IsCapIf hint.cap report.finding.capability
  pub hints : SaysWords report.finding

-- about a field of any entry of the text, as of one that the entry uses
abbrev pub ReportsAnyHint : Content → ℕ → ℕ → List ℕ → HintText → Report → Type 0
ReportsAnyHint entry height width file text report =
    (place : ℕ) × ReportsHint entry height width file text place report

-- any number of such reports
abbrev pub AreAll : (Report → Type 0) → List Report → Type 0
AreAll P reports = AllByRecursion P reports

-- reports about a text, if there is one
abbrev pub AreAllIf : (HintText → Report → Type 0) → Option HintText → List Report → Type 0
AreAllIf P None reports = reports ≡ []
AreAllIf P (Some text) reports = AreAll (P text) reports

-- hints about the fields of an entry at its place, of those that it uses in its file too, or none
abbrev pub AreHintsAt : Content → ℕ → ℕ → List ℕ → List FileText → Hinted → PlaceInSource → List Report → Type 0
AreHintsAt entry height width file originals Unhinted stands reports = reports ≡ []
AreHintsAt entry height width file originals Own stands reports =
    AreAllIf (λ text. ReportsHint entry height width file text stands.place)
    (hint_text originals stands.files stands.raws) reports
AreHintsAt entry height width file originals WithUsed stands reports =
    AreAllIf (ReportsAnyHint entry height width file) (hint_text originals stands.files stands.raws) reports

-- the entry of a compiled file has no fields
abbrev pub AreHints : Content → ℕ → ℕ → List ℕ → List FileText → Hinted → Option PlaceInSource → List Report → Type 0
AreHints entry height width file originals fields None reports = reports ≡ []
AreHints entry height width file originals fields (Some stands) reports =
    AreHintsAt entry height width file originals fields stands reports

-- The reports on an entry: the verdict or the faults, then advice, and then hints.
pub record AreFound (entry : Content) (height width : ℕ) (all : Bool) (hinted : Hinted) (file : List ℕ)
    (originals : List FileText) (stands : Option PlaceInSource) (nos : List No) (reports : List Report) : Type 0 where
  pub verdicts : List Report
  pub advice : List Report
  pub hints : List Report
  pub whole : reports ≡ (verdicts ++ advice) ++ hints
  pub judged : AreVerdicts entry height width all file originals stands nos verdicts
  pub advises : AreAll (ReportsAdvice entry height width file) advice
  pub hints_are : AreHints entry height width file originals hinted stands hints

-- ---- (Serves the code alone.)

-- a report on the subject with this verdict, cause and finding
pub record IsReportOn (subject : Subject) (verdict : Verdict) (cause : Option (String Global)) (finding : Finding)
    (report : Report) : Type 0 where
  pub about : Concerns subject.entry.now subject.size.rows subject.size.cols subject.file.now report
  pub verdict_is : report.verdict ≡ verdict
  pub cause_is : report.cause ≡ cause
  pub finding_is : report.finding ≡ finding

-- the subject without its memory
abbrev pub of_subject : Subject → List No → Option Mended → List (Bor (List ℕ)) → OfFaults
of_subject subject nos mended left_out =
    of_faults subject.entry.now subject.size.rows subject.size.cols (map file_text subject.originals.now)
    (place_if subject.stands.now) subject.lists_all nos mended left_out
