-- The answer of `check --json`, by the contents of its files.
use Rattle.std.specs.Prelude.{◌≡◌, ◌⊎◌, ℕ, Bool, true, false, List, [], ◌∷◌, Option, Some, None}
use Rattle.std.specs.List.{list_any}
use Rattle.ti_caps.specs.Entry.{Content}
use Rattle.ti_checker.specs.declared.causes.No.{No}
use Rattle.ti_files.specs.Contents.{Held}
use Rattle.ti_commands.specs.Findings.{LacksEntry}
use Rattle.ti_commands.specs.Sources.{IsSourced}
use Rattle.ti_files.specs.declared.failure.Failure.{Failure}
use Rattle.ti_files.specs.declared.failure.Reply.{Reply}
use Rattle.ti_commands.specs.declared.sources.SourceText.{SourceText}
use Rattle.ti_reports.specs.Faults.{AreFound}
use Rattle.ti_reports.specs.Forms.{Printing, Wanting, is_news}
use Rattle.ti_reports.specs.Findings.{AreFaults}
use Rattle.ti_reports.specs.Lacks.{ReportsLackOf, is_alone}
use Rattle.ti_reports.specs.Sizes.{AtSize}
use Rattle.ti_reports.specs.declared.hints.Hinted.TheVariants.{WithUsed}
use Rattle.ti_reports.specs.declared.reports.Report.{Report}
use Rattle.ti_sources.specs.LinedFiles.{FileText}
use Rattle.ti_requests.specs.declared.request.FaultsWords.{FaultsWords}
use Rattle.ti_verdicts.specs.Checks.{TellsNotes}
use Rattle.ti_verdicts.specs.FaultLists.{EndsAsNo}
use Rattle.ti_verdicts.specs.Locations.{PlaceInSource, source_place}
use Rattle.ti_verdicts.specs.Parts.{HasParts}

-- the path of the source, or the word that is the path of a compiled file
abbrev pub file_of : Option SourceText → List ℕ → List ℕ
file_of (Some source) word = source.path.now
file_of None word = word

-- the reply fails as the first of these does, if there is one and the form tells of one
abbrev pub EndsAsFirst : Bool → List No → Option Failure → Type 0
EndsAsFirst false nos failure = failure ≡ None
EndsAsFirst true [] failure = failure ≡ None
EndsAsFirst true (first ∷ others) failure = EndsAsNo first failure

-- the reply has the reports of these faults as the form prints them, and fails as the first fault does
pub record TellsFound (Wanted : Wanting) (Prints : Printing) (entry : Content) (height width : ℕ) (all : Bool)
    (file : List ℕ) (originals : List FileText) (stands : Option PlaceInSource) (nos : List No) (reply : Reply)
    : Type 0 where
  pub reports : List Report
  pub found : AreFound entry height width all WithUsed file originals stands nos reports
  pub printed : HasParts Prints reports reply.text.items
  pub ends : EndsAsFirst (list_any (is_news Wanted) reports) nos reply.failure

-- The word gives no entry: the reply reports that, for this size, and fails for the reason.
pub record ReportsMissing (Wanted : Wanting) (Prints : Printing) (held : Held) (words : FaultsWords) (reply : Reply)
    (height width : ℕ) : Type 0 where
  pub failure : Failure
  pub lacks : LacksEntry held words.entry.now failure
  pub tells : ReportsLackOf Wanted Prints height width (is_alone held.with_paths) words.entry.now failure reply

-- The reply has the notes of this entry, and reports its first fault, or all of them, or that there is none.
pub record ReportsEntry (Wanted : Wanting) (Prints : Printing) (originals : List FileText) (entry : Content)
    (source : Option SourceText) (height width : ℕ) (lists_all : Bool) (word : List ℕ) (reply : Reply) : Type 0 where
  pub notes : TellsNotes entry reply.notes.items
  pub nos : List No
  pub found : AreFaults lists_all entry height width nos
  pub tells : TellsFound Wanted Prints entry height width lists_all (file_of source word) originals
      (source_place source) nos reply

-- the reply reports on the entry that the word gives, at this size
pub record ReportsOn (Wanted : Wanting) (Prints : Printing) (originals : List FileText) (held : Held) (lists_all : Bool)
    (words : FaultsWords) (reply : Reply) (height width : ℕ) : Type 0 where
  pub entry : Content
  pub source : Option SourceText
  pub gives : IsSourced held words.entry.now entry source
  pub tells : ReportsEntry Wanted Prints originals entry source height width lists_all words.entry.now reply

-- a report on the entry, or that there is none, at the size that the words give
abbrev pub Replies : Wanting → Printing → List FileText → Held → Bool → FaultsWords → Reply → Type 0
Replies Wanted Prints originals held lists_all words reply =
    AtSize words.rows.now words.cols.now (ReportsOn Wanted Prints originals held lists_all words reply)
    ⊎ AtSize words.rows.now words.cols.now (ReportsMissing Wanted Prints held words reply)
