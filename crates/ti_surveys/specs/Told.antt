-- The statements of a survey about an entry, a file or several.
use Rattle.std.specs.Prelude.{◌≡◌, ℕ, Bool, true, false, List, [], ◌∷◌, ◌++◌, map}
use Rattle.ti_verdicts.specs.declared.answers.Answer.{Answer}
use Rattle.ti_verdicts.specs.Locations.{PlacedText, placed_in}
use Rattle.ti_surveys.specs.declared.said.Said.{Said}

-- lines, the faults that they name where these have a place in a source, the answer of each line, and whether a session
-- opens on each entry that is asked about
pub record Told : Type 0 where
  pub lines : List ℕ
  pub places : List PlacedText
  pub answers : List Answer
  pub opened : List Bool

abbrev pub nothing : Told
nothing = record { lines = []; places = []; answers = []; opened = [] }

-- one statement, and then the other
abbrev pub followed_by : Told → Told → Told
followed_by first later = record {
  lines = first.lines ++ later.lines;
  places = first.places ++ later.places;
  answers = first.answers ++ later.answers;
  opened = first.opened ++ later.opened;
}

-- the statements about each item, one after another
unfoldable pub IsToldOfEach : {X : Type 0} → (X → Told → Type 0) → List X → Told → Type 0
IsToldOfEach P [] told = told ≡ nothing
IsToldOfEach P (x ∷ xs) told = (own : Told) × (later : Told) × (told ≡ followed_by own later) × P x own
    × IsToldOfEach P xs later

-- the statement about an item that is dealt with, or the one about an item that is left
abbrev pub IsEither : {X : Type 0} → (X → Told → Type 0) → (X → Told → Type 0) → Bool → X → Told → Type 0
IsEither P Leaves false x told = P x told
IsEither P Leaves true x told = Leaves x told

-- the item, if it is left
abbrev pub left_if : {X : Type 0} → Bool → X → List X
left_if false x = []
left_if true x = x ∷ []

-- Each item has its statement, which follows those before it, or it is among the `left`, in their order, with the
-- statement about an item that is left.
unfoldable pub IsToldOrLeft : {X : Type 0} → (X → Told → Type 0) → (X → Told → Type 0) → List X → Told → List X
    → Type 0
IsToldOrLeft P Leaves [] told left = (told ≡ nothing) × (left ≡ [])
IsToldOrLeft {X} P Leaves (x ∷ xs) told left =
    (is_left : Bool) × (own : Told) × (later : Told) × (others : List X) × (told ≡ followed_by own later)
    × (left ≡ left_if is_left x ++ others) × IsEither P Leaves is_left x own × IsToldOrLeft P Leaves xs later others

-- (Serves the code alone.) all of it, without its memory
abbrev pub told_of : Said → Told
told_of said = record {
  lines = said.lines.items;
  places = map placed_in said.places.items;
  answers = said.answers.items;
  opened = said.opened.items;
}
