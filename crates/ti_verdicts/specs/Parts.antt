-- Texts and other lists that have a part for each item of a list.
use Rattle.std.specs.Prelude.{◌≡◌, List, [], ◌∷◌, ◌++◌}

-- a list, as a text, that has a part for each item, one after another
unfoldable pub HasParts : {X Y : Type 0} → (X → List Y → Type 0) → List X → List Y → Type 0
HasParts P [] all = all ≡ []
HasParts {X} {Y} P (x ∷ xs) all =
    (own : List Y) × (later : List Y) × (all ≡ own ++ later) × P x own × HasParts P xs later
