-- The lines of `survey` about an entry: one under its name, or one for each of its faults, and beside these the faults'
-- places. Each byte of a line can be printed.
use Rattle.std.specs.Prelude.{◌≡◌, ◌≢◌, ◌⊎◌, ℕ, Bool, true, false, List, [], ◌∷◌, ◌++◌, Option, Some, None, codes, map}
use Rattle.std.specs.List.{flat_map}
use Rattle.ti_caps.specs.Entry.{Content}
use Rattle.ti_checker.specs.declared.causes.Cause.TheVariants.{NoMemory}
use Rattle.ti_checker.specs.declared.causes.No.{No}
use Rattle.ti_files.specs.Refusals.{refusal_text_of}
use Rattle.ti_files.specs.declared.failure.CommandRefusal.{CommandRefusal}
use Rattle.ti_faults.specs.AllFaults.{AreAllFaults}
use Rattle.ti_surveys.specs.Kinds.{kind_answers, listed_kind}
use Rattle.ti_surveys.specs.Lines.{Leaving, Refusing, Saying}
use Rattle.ti_surveys.specs.Openings.{AreOpenings}
use Rattle.ti_verdicts.specs.Parts.{HasParts}
use Rattle.ti_verdicts.specs.Locations.{IsPlaced, PlaceInSource, PlacedText}
use Rattle.ti_verdicts.specs.Refusals.{no_text}
use Rattle.ti_sources.specs.LinedFiles.{FileText, file_text}
use Rattle.ti_surveys.specs.Told.{Told, nothing}
use Rattle.ti_verdicts.specs.declared.answers.Answer.{Answer}
use Rattle.ti_verdicts.specs.declared.answers.Answer.TheVariants as answers
use Rattle.ti_surveys.specs.declared.asked.Asked.{Asked}
use Rattle.ti_surveys.specs.declared.kinds.EntryKind.{EntryKind}
use Rattle.ti_surveys.specs.declared.kinds.EntryKind.TheVariants.{Other, Part, Usual}
use Rattle.ti_files.specs.Shown.{shown}

-- the line of a name and the words about it, in which each byte that can't be printed is in octal
abbrev pub line_of : List ℕ → List ℕ → List ℕ
line_of name words = shown (name ++ words) ++ 10 ∷ []

-- one line alone, and its answer; no session is asked about
abbrev pub one_line : List ℕ → List ℕ → Answer → Told
one_line name words answer = record {
  lines = line_of name words;
  places = [];
  answers = answer ∷ [];
  opened = [];
}

-- there is a certificate, and the line says so
pub record HasYes (Certifies : List ℕ → Type 0) (name : List ℕ) (told : Told) : Type 0 where
  pub text : List ℕ
  pub certified : Certifies text
  pub says : told ≡ one_line name (codes " yes") answers.Yes

-- there is a refusal, other than for memory, and the line names it
pub record HasNo (Refuses : No → Type 0) (name : List ℕ) (told : Told) : Type 0 where
  pub refusal : No
  pub refused : Refuses refusal
  pub claims : refusal.cause ≢ NoMemory
  pub says : told ≡ one_line name (codes " " ++ no_text refusal) (answers.No refusal.cause)

-- a certifier's answer about an entry for rows and columns, under the entry's name
abbrev pub HasAnswer : (Content → ℕ → ℕ → List ℕ → Type 0) → (Content → ℕ → ℕ → No → Type 0) → ℕ → ℕ → List ℕ → Content
    → Told → Type 0
HasAnswer certifies refuses height width name entry told =
    HasYes (certifies entry height width) name told ⊎ HasNo (refuses entry height width) name told

-- the line of an entry's name with one of its faults
abbrev pub fault_line : List ℕ → No → List ℕ
fault_line name refusal = line_of name (codes " " ++ no_text refusal)

-- a line for each fault of an entry, or ` yes` if it has none
abbrev pub fault_lines : List ℕ → List No → List ℕ
fault_lines name [] = line_of name (codes " yes")
fault_lines name (first ∷ others) = flat_map (fault_line name) (first ∷ others)

-- an entry that is only there to be used has the line ` part` if such entries are to be named, and else no line
abbrev pub part_lines : Bool → List ℕ → List ℕ
part_lines true name = line_of name (codes " part")
part_lines false name = []

-- a fault at its place, and below its field a further line, whose words are free
abbrev pub with_line : List ℕ → PlacedText → PlacedText
with_line line placed = record placed { fault = placed.fault ++ line }

pub record IsPlacedMore (originals : List FileText) (stands : Option PlaceInSource) (name : List ℕ) (refusal : No)
    (placed : List PlacedText) : Type 0 where
  pub bare : List PlacedText
  pub stands_at : IsPlaced originals stands name refusal bare
  pub line : List ℕ
  pub is : placed ≡ map (with_line line) bare

-- The lines of an entry's faults, under its name, and for each of them the place of its value. An entry for terminals
-- of another kind has one line.
abbrev pub TellsFaults : EntryKind → Bool → List FileText → Option PlaceInSource → List ℕ → List No → List ℕ
    → List PlacedText → Type 0
TellsFaults Part names_parts originals stands name nos lines places =
    (lines ≡ part_lines names_parts name) × (places ≡ [])
TellsFaults Other names_parts originals stands name nos lines places =
    (lines ≡ line_of name (codes " no: OtherKind")) × (places ≡ [])
TellsFaults Usual names_parts originals stands name nos lines places =
    (lines ≡ fault_lines name nos) × HasParts (IsPlacedMore originals stands name) nos places

-- the statement about an entry of which all faults are listed
pub record HasAllFaults (height width : ℕ) (names_parts : Bool) (originals : List FileText)
    (stands : Option PlaceInSource) (name : List ℕ) (entry : Content) (told : Told) : Type 0 where
  pub nos : List No
  pub all : AreAllFaults entry height width nos
  pub tells : TellsFaults (listed_kind entry nos) names_parts originals stands name nos told.lines told.places
  pub answers : told.answers ≡ kind_answers (listed_kind entry nos) nos
  pub opened : AreOpenings (listed_kind entry nos) entry height width told.opened

-- the statement about an entry under its name: all its faults, or a certifier's answer
abbrev pub SaysBy : Bool → Bool → List FileText → (Content → ℕ → ℕ → List ℕ → Type 0)
    → (Content → ℕ → ℕ → No → Type 0) → ℕ → ℕ → Saying
SaysBy true names_parts originals certifies refuses height width path stands name entry told =
    HasAllFaults height width names_parts originals stands name entry told
SaysBy false names_parts originals certifies refuses height width path stands name entry told =
    HasAnswer certifies refuses height width name entry told

-- (Serves the code alone.) the statement about an entry, as the survey is asked for it
abbrev pub SaysTo : {C : Type 0} → (C → Content → ℕ → ℕ → List ℕ → Type 0) → (C → Content → ℕ → ℕ → No → Type 0)
    → Asked C → Saying
SaysTo certifies refuses asked = SaysBy asked.lists_all asked.names_parts (map file_text asked.originals.now)
    (certifies asked.certifier.now) (refuses asked.certifier.now) asked.size.rows asked.size.cols

-- the words of a refusal behind the name
abbrev pub refusal_text : CommandRefusal → List ℕ
refusal_text refusal = codes " refused: " ++ refusal_text_of refusal

-- the name, or the path of a file that has no entries
abbrev pub name_or : List ℕ → Option (List ℕ) → List ℕ
name_or path (Some name) = name
name_or path None = path

-- the line of a name whose entry or file can't be obtained, with the reason; the entry's place has no influence
abbrev pub IsRefused : Refusing
IsRefused path stands name refusal told = told ≡ one_line (name_or path name) (refusal_text refusal) answers.Refused

-- nothing is said of a path that can't be read: the failure or a remark names it
abbrev pub SaysNothing : Leaving
SaysNothing path told = told ≡ nothing
