-- The answer of `survey`, by the contents of its files and the promises of a certifier.
use Rattle.std.specs.Prelude.{◌≡◌, ℕ, List, [], ◌∷◌, ◌++◌, Option, Some, None, codes, map}
use Rattle.std.specs.String.{string_bytes}
use Rattle.ti_caps.specs.Entry.{Content}
use Rattle.ti_checker.specs.declared.causes.No.{No}
use Rattle.ti_files.specs.Contents.{HasBytes, Held, longest_file}
use Rattle.ti_commands.specs.Further.{AreHeld}
use Rattle.ti_files.specs.Sizes.{SizeGiven}
use Rattle.ti_files.specs.Words.{texts_of}
use Rattle.ti_files.specs.declared.failure.Failure.{Failure}
use Rattle.ti_files.specs.declared.failure.Failure.TheVariants.{File}
use Rattle.ti_files.specs.declared.failure.Reply.{Reply}
use Rattle.ti_sources.specs.declared.files.FurtherFile.{FurtherFile}
use Rattle.ti_sources.specs.LinedFiles.{FileText}
use Rattle.ti_surveys.specs.Answers.{IsRefused, SaysBy, SaysNothing}
use Rattle.ti_verdicts.specs.Counts.{answers_line}
use Rattle.ti_surveys.specs.Lines.{AreLines, Leaving}
use Rattle.ti_surveys.specs.Places.{places_text}
use Rattle.ti_surveys.specs.Strict.{EndsStrictly}
use Rattle.ti_surveys.specs.Told.{IsToldOrLeft, Told}
use Rattle.ti_verdicts.specs.Locations.{PlacedText}
use Rattle.ti_requests.specs.declared.request.SurveyWords.{SurveyWords}
use Rattle.ti_files.specs.Remarks.{quoted}
use Rattle.ti_files.specs.Shown.{shown}

-- the statements allowed about a file, by its path and its bytes
abbrev pub OfFile : Type 1
OfFile = List ℕ → List ℕ → Told → Type 0

-- the statement about the file at a path
abbrev pub HasLines : OfFile → Held → List ℕ → Told → Type 0
HasLines Are held path told = HasBytes (held.at path) longest_file (λ bytes. Are path bytes told)

-- the remark about a further file that can't be read
abbrev pub further : List ℕ → List ℕ
further path = quoted (shown path) (codes " could not be read either")

-- the file at this path can't be read, and the failure says so
abbrev pub Blames : List ℕ → Option Failure → Type 0
Blames path (Some (File told)) = string_bytes told ≡ path
Blames path _ = ⊥

-- The failure is that of the first of these paths, and the last remarks name the others, in order. Without such a path
-- there is no failure.
abbrev pub AreNamed : List (List ℕ) → Option Failure → List (List ℕ) → Type 0
AreNamed [] failed remarks = failed ≡ None
AreNamed (first ∷ others) failed remarks =
    Blames first failed × (before : List (List ℕ)) × (remarks ≡ before ++ map further others)

-- Each path has its lines, one after another, or is named as one that can't be read and has the lines for that. The
-- entries of its file may use those of the files of `--with`.
pub record EndsPaths (Are : List FurtherFile → OfFile) (Leaves : Leaving) (held : Held) (paths : List (List ℕ))
    (told : Told) (failed : Option Failure) (remarks : List (List ℕ)) : Type 0 where
  pub others : List FurtherFile
  pub beside : AreHeld held held.with_paths others
  pub unread : List (List ℕ)
  pub each : IsToldOrLeft (HasLines (Are others) held) Leaves paths told unread
  pub named : AreNamed unread failed remarks

-- the faults at their places, each once, and behind these a further line, whose words are free
abbrev pub HasNotes : List PlacedText → List ℕ → Type 0
HasNotes places notes = (further : List ℕ) × (notes ≡ places_text places ++ further)

-- The lines of each path are heard, and the reply has the number of lines with each answer; its notes are the faults in
-- the lines at their places, each once. It fails if a path can't be read, or, if the words ask for it, if a line
-- doesn't say yes.
pub record IsSurveyed (originals : List FileText) (certifies : Content → ℕ → ℕ → List ℕ → Type 0)
    (refuses : Content → ℕ → ℕ → No → Type 0) (held : Held) (words : SurveyWords) (remarks : List (List ℕ))
    (AreHeard : List ℕ → Type 0) (reply : Reply) : Type 0 where
  pub height : ℕ
  pub width : ℕ
  pub given : SizeGiven words.rows.now words.cols.now height width
  pub told : Told
  pub failed : Option Failure
  pub ends : EndsPaths
      (AreLines (SaysBy words.lists_all words.names_parts originals certifies refuses height width) IsRefused)
      SaysNothing held (texts_of words.paths.items) told failed remarks
  pub strictly : EndsStrictly words.is_strict told.answers failed reply.failure
  pub places : HasNotes told.places reply.notes.items
  pub heard : AreHeard told.lines
  pub counts : reply.text.items ≡ answers_line told.answers
