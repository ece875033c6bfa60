-- Lists that have a part for each item of a list, and parts of one item at most.
use Rattle.std.specs.Prelude.{◌≡◌, List, [], ◌∷◌, ◌++◌, Option, Some, None}

-- a list that has a part for each item, one after another
unfoldable pub HasParts : {X Y : Type 0} → (X → List Y → Type 0) → List X → List Y → Type 0
HasParts P [] all = all ≡ []
HasParts {X} {Y} P (x ∷ xs) all =
    (own : List Y) × (later : List Y) × (all ≡ own ++ later) × P x own × HasParts P xs later

-- one item, or none
abbrev pub optional : {Y : Type 0} → Option Y → List Y
optional None = []
optional (Some y) = y ∷ []

-- the part of an item is one thing, or nothing
pub record IsAtMost {X Y : Type 0} (P : X → Option Y → Type 0) (x : X) (own : List Y) : Type 0 where
  pub found : Option Y
  pub is : own ≡ optional found
  pub judged : P x found
