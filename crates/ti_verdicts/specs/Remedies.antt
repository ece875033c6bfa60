-- The line with a string that would be right in place of one at fault.
use Rattle.std.specs.Prelude.{◌≡◌, ℕ, Bool, true, false, List, [], ◌++◌, Option, Some, None, Ok, codes}
use Rattle.ti_caps.specs.Entry.{Content}
use Rattle.ti_caps.specs.Table.{name_at}
use Rattle.ti_checker.specs.declared.causes.No.{No}
use Rattle.ti_faults.specs.declared.mended.Mended.{Mended}
use Rattle.ti_faults.specs.Remedies.{IsSuggestion, listed_with, is_of_another_kind}
use Rattle.ti_source.specs.Escapes.{unescaped}
use Rattle.ti_source.specs.Prints.{string_text}
use Rattle.ti_verdicts.specs.Parts.{HasParts}

-- the spelling of a string in a source text, which is printable and is read as exactly these bytes
pub record IsSpelled (string spelled : List ℕ) : Type 0 where
  pub printed : spelled ≡ string_text string
  pub reads : unescaped spelled ≡ Ok string

-- `CAP=STRING would be right on T`, after two spaces
abbrev pub remedy_line : ℕ → List ℕ → List ℕ
remedy_line cap spelled = codes "  " ++ (name_at cap ++ (codes "=" ++ (spelled ++ codes " would be right on T\n")))

abbrev pub TellsRemedy : ℕ → Option (List ℕ) → List ℕ → Type 0
TellsRemedy cap None line = line ≡ []
TellsRemedy cap (Some string) line = (spelled : List ℕ) × IsSpelled string spelled × (line ≡ remedy_line cap spelled)

-- no string if the faults show a terminal of another kind, else the suggestion by the mended entry
abbrev pub IsSuggestedBy : Bool → Content → Mended → ℕ → Option (List ℕ) → Type 0
IsSuggestedBy true entry mended cap found = found ≡ None
IsSuggestedBy false entry mended cap found = IsSuggestion entry mended cap found

-- the line of the string that was judged right in place of the entry's own; none if there is no such string
pub record HasRemedy (entry : Content) (mended : Mended) (nos : List No) (cap : ℕ) (line : List ℕ) : Type 0 where
  pub found : Option (List ℕ)
  pub judged : IsSuggestedBy (is_of_another_kind nos) entry mended cap found
  pub says : TellsRemedy cap found line

-- the lines of the capability of a fault, and of those that are mended as one with it
abbrev pub HasRemedies : Content → Mended → List No → ℕ → List ℕ → Type 0
HasRemedies entry mended nos cap lines = HasParts (HasRemedy entry mended nos) (listed_with nos cap) lines
