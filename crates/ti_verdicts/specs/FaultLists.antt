-- The answer of `check --all`: all faults of an entry, and their number.
use Rattle.std.specs.Prelude.{◌≡◌, ℕ, List, [], ◌∷◌, ◌++◌, Option, Some, None, codes, map}
use Rattle.std.specs.List.{AllByRecursion, flat_map}
use Rattle.ti_caps.specs.Entry.{Content}
use Rattle.ti_checker.specs.declared.causes.No.{No}
use Rattle.ti_files.specs.Contents.{Held}
use Rattle.ti_files.specs.Sizes.{SizeGiven}
use Rattle.ti_commands.specs.Sources.{IsSourced}
use Rattle.ti_files.specs.declared.failure.Failure.{Failure}
use Rattle.ti_files.specs.declared.failure.Reply.{Reply}
use Rattle.ti_commands.specs.declared.sources.SourceText.{SourceText}
use Rattle.ti_faults.specs.AllFaults.{AreAllFaults}
use Rattle.ti_faults.specs.Mended.{IsBestMended}
use Rattle.ti_faults.specs.declared.mended.Mended.{Mended}
use Rattle.ti_requests.specs.declared.request.FaultsWords.{FaultsWords}
use Rattle.ti_verdicts.specs.FaultAnswers.{fault_answer}
use Rattle.ti_verdicts.specs.Checks.{HasText, TellsNotes}
use Rattle.ti_verdicts.specs.Counts.{answers_line}
use Rattle.ti_verdicts.specs.Parts.{HasParts}
use Rattle.ti_verdicts.specs.Locations.{IsLocation, PlaceInSource, source_place}
use Rattle.ti_sources.specs.LinedFiles.{FileText}
use Rattle.ti_verdicts.specs.Remedies.{HasRemedies}
use Rattle.ti_verdicts.specs.Refusals.{TellsNo, no_text}
use Rattle.ti_files.specs.Remarks.{IsRemark}

-- ---- a fault

-- words on a line of their own, after two spaces
abbrev pub indented : List ℕ → List ℕ
indented words = codes "  " ++ (words ++ 10 ∷ [])

-- lines in free words, none of which could be taken for a suggestion
pub record AreIndented (lines : List ℕ) : Type 0 where
  pub each : List (List ℕ)
  pub remarks : AllByRecursion IsRemark each
  pub says : lines ≡ flat_map indented each

-- The line of a fault; below it the place of its value in the source and the field there, further lines in free words,
-- each after two spaces, and the lines of the strings that would be right.
abbrev pub HasFaultLines : List FileText → Content → Option PlaceInSource → Mended → List No → No → List ℕ → Type 0
HasFaultLines originals entry stands mended nos refusal lines =
    (place : List ℕ) × (further : List ℕ) × (remedies : List ℕ) × IsLocation originals stands refusal.cap place
    × AreIndented further × HasRemedies entry mended nos refusal.cap remedies
    × (lines ≡ no_text refusal ++ 10 ∷ (place ++ (further ++ remedies)))

-- ---- counts

-- `total N`, and the number of faults of each cause, as a survey counts its answers
abbrev pub counts_line : List No → List ℕ
counts_line nos = answers_line (map fault_answer nos)

-- ---- the reply

-- the lines of each fault, in their order, and the line of counts
pub record IsFaultsText (originals : List FileText) (entry : Content) (stands : Option PlaceInSource) (mended : Mended)
    (nos : List No) (text : List ℕ) : Type 0 where
  pub lines : List ℕ
  pub each : HasParts (HasFaultLines originals entry stands mended nos) nos lines
  pub says : text ≡ lines ++ counts_line nos

abbrev pub EndsAsNo : No → Option Failure → Type 0
EndsAsNo refusal (Some failure) = TellsNo refusal failure
EndsAsNo refusal None = ⊥

-- The reply lists these faults, with the suggestions by the entry in which all of them are mended at once, and fails as
-- the first does.
pub record HasFaults (originals : List FileText) (entry : Content) (stands : Option PlaceInSource) (rows cols : ℕ)
    (first : No) (others : List No) (reply : Reply) : Type 0 where
  pub mended : Mended
  pub best : IsBestMended entry rows cols (first ∷ others) mended
  pub text : IsFaultsText originals entry stands mended (first ∷ others) reply.text.items
  pub ends : EndsAsNo first reply.failure

-- the reply is `yes` if there is no fault
abbrev pub TellsFaults : List FileText → Content → Option PlaceInSource → ℕ → ℕ → List No → Reply → Type 0
TellsFaults originals entry stands rows cols [] reply = HasText (codes "yes\n") reply
TellsFaults originals entry stands rows cols (first ∷ others) reply =
    HasFaults originals entry stands rows cols first others reply

-- The entry that the word gives, at the size that the words give: the reply has its notes, and lists all its faults, or
-- says that there is none. The originals are the texts of those files whose lines were joined, as they were before.
pub record ListsFaults (originals : List FileText) (held : Held) (words : FaultsWords) (reply : Reply) : Type 0 where
  pub height : ℕ
  pub width : ℕ
  pub given : SizeGiven words.rows.now words.cols.now height width
  pub entry : Content
  pub source : Option SourceText
  pub gives : IsSourced held words.entry.now entry source
  pub notes : TellsNotes entry reply.notes.items
  pub nos : List No
  pub all : AreAllFaults entry height width nos
  pub tells : TellsFaults originals entry (source_place source) height width nos reply
